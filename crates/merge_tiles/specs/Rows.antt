-- Inside this crate, merge_gather and merge_frame: rows of pairs of correction tiles in the work area, two of them, each by halves of its pairs.
use Rattle.std.specs.Prelude.{◌≡◌, ◌+◌, ◌-◌, ◌*◌, ◌/◌, ◌%◌, ◌≤◌, ◌<◌}
use Rattle.merge_tiles.specs.Prelude.{List, ℕ, length, get_or, ℤ, pos, nat_abs, written, Scene}
use Rattle.merge_tiles.specs.Sum.{taken_in, taken_most, Taking}
use Rattle.merge_tiles.specs.Toward.{Toward}

-- A block is as many words of a frame's row as from one pair of tiles to the next; it lies in two pairs of a row, the left half of the later one and the right
-- half of the earlier one. The halves outside the frame, of the first and the last pair, are not held. So a row of pairs takes so many words, and starts here
unfoldable pub row_words : (side width : ℕ) → ℕ
row_words side width = 2 * side * width

unfoldable pub slot_of : (side width row : ℕ) → ℕ
slot_of side width row = row % 2 * row_words side width

-- Word c of row i of half h: half 2·b + u is over block b, for u = 0 the left half of pair b + 1, for u = 1 the right half of pair b. Column x of the tile of
-- column parity p is place 2·x + p of a pair.
unfoldable pub half_word : (side : ℕ) → Taking → (rowParity row h i c : ℕ) → ℤ
half_word side taken rowParity row h i c = taken rowParity (c % 2) row (h / 2 + 1 - h % 2) i (c / 2 + h % 2 * (side / 2))

-- word k of the row, half after half, each row by row
unfoldable pub row_word : (side : ℕ) → Taking → (rowParity row k : ℕ) → ℤ
row_word side taken rowParity row k = half_word side taken rowParity row (k / (side * side)) (k % (side * side) / side) (k % side)

-- l is d with a row of pairs of a merge stored
pub record Stored (side : ℕ) (s : Scene) (rowParity row : ℕ) (d l : List ℤ) : Type 0 where
  pub is : l ≡ written d (slot_of side s.width row) (row_word side (taken_in s) rowParity row) (row_words side s.width)
  pub most : (k : ℕ) → k < row_words side s.width → nat_abs (row_word side (taken_in s) rowParity row k) ≤ taken_most

-- the words f i j, j below n, of the first `count` lines, each `step` words after the one before, are the words g there
abbrev pub Fits : (f : ℕ → ℕ → ℤ) (at step n count : ℕ) (g : ℕ → ℤ) → Type 0
Fits f at step n count g = (i j : ℕ) → i < count → j < n → f i j ≡ g (at + step * i + j)

-- l is d with those lines stored, if P: where they are right, they stand there, and no right word is lost
pub record Spread (P : Type 0) (f : ℕ → ℕ → ℤ) (at step n count : ℕ) (d l : List ℤ) : Type 0 where
  pub same : length l ≡ length d
  pub toward : (g : ℕ → ℤ) → (P → Fits f at step n count g) → Toward (pos 0) g d l
  pub right : P → (g : ℕ → ℤ) → Fits f at step n count g → (i j : ℕ) → i < count → j < n → get_or l (at + step * i + j) (pos 0) ≡ g (at + step * i + j)
