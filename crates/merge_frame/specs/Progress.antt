-- Inside this crate: a row of pairs of tiles that the work area holds, and rows of the output that are merged.
use Rattle.std.specs.Prelude.{◌+◌, ◌-◌, ◌*◌, ◌/◌}
use Rattle.merge_frame.specs.Prelude.{List, ℕ, ℤ, Scene, word_at, taken_in}
use Rattle.sequences.specs.Tab.{tab}
use Rattle.merge_gather.specs.RowsHeld.{RowHeld, word_below, RowsWritten}

-- the work area holds a row of pairs of tiles of a merge
abbrev pub Held : (side : ℕ) → Scene → (rowParity row : ℕ) (work : List ℤ) → Type 0
Held side s = RowHeld side s.width (taken_in s)

-- m is l with the parity's rows from a to before b merged
abbrev pub RowsMerged : Scene → (top rowParity a b : ℕ) (l m : List ℕ) → Type 0
RowsMerged s = RowsWritten s.width (word_at s)

-- the same of the rows between the tile rows `band` and `band` + 1, half a side of them, of which the work area then holds the second
pub record BandMerged (side : ℕ) (s : Scene) (top rowParity band : ℕ) (l m : List ℕ) (work : List ℤ) : Type 0 where
  pub rows : RowsMerged s top rowParity (side / 2 * band) (side / 2 * band + side / 2) l m
  pub held : Held side s rowParity (band + 1) work

-- the rows of the merge from side·first to before side·last
unfoldable pub merged_rows : (side : ℕ) → Scene → (first last : ℕ) → List ℕ
merged_rows side s first last = tab ((side * last - side * first) * s.width) (word_below s.width (word_at s) (side * first))
