-- Inside the crates of the merge and of the range: a row of pairs of tiles that the work area holds, and rows of the output that are written.
use Rattle.std.specs.Prelude.{◌≡◌, ◌+◌, ◌-◌, ◌*◌, ◌≤◌, ◌<◌}
use Rattle.merge_gather.specs.Prelude.{List, ℕ, get_or, ℤ, pos, Taking, row_words, slot_of, row_word}
use Rattle.merge_tiles.specs.Toward.{Toward}
use Rattle.merge_gather.specs.Work.{Words}

-- the work area holds a row of pairs of tiles of a side, whatever is taken from them
pub record RowHeld (side width : ℕ) (taken : Taking) (rowParity row : ℕ) (work : List ℤ) : Type 0 where
  pub words : Words work (slot_of side width row) (row_words side width)
  pub is : (k : ℕ) → k < row_words side width → get_or work (slot_of side width row + k) (pos 0) ≡ row_word side taken rowParity row k

-- A frame has the words `word`, and an output begins with its row `top`: the output's word k, and where its word at row y of a row parity and column c of the frame stands
abbrev pub word_below : (width : ℕ) (word : ℕ → ℕ) (top k : ℕ) → ℕ
word_below width word top k = word (top * width + k)

abbrev pub place_of : (width top rowParity y c : ℕ) → ℕ
place_of width top rowParity y c = (2 * y + rowParity - top) * width + c

-- m is l with the parity's rows from a to before b written; a word that is right in l is right in m
pub record RowsWritten (width : ℕ) (word : ℕ → ℕ) (top rowParity a b : ℕ) (l m : List ℕ) : Type 0 where
  pub toward : Toward 0 (word_below width word top) l m
  pub right : (y c : ℕ) → a ≤ y → y < b → c < width → get_or m (place_of width top rowParity y c) 0 ≡ word_below width word top (place_of width top rowParity y c)
