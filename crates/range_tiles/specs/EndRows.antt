-- Inside the crates of the range: both ends of rows of pairs in the work area. The greatest sums lie as a merge's rows do, and the least ones likewise behind them.
use Rattle.range_tiles.specs.Prelude.{List, ℕ, length, get_or, ℤ, pos, nat_abs, Merge, Scene, greatest_at, least_at, Taking, taken_most, row_words, slot_of, row_word}
use Rattle.std.specs.Prelude.{◌⊎◌, ◌≡◌, ◌+◌, ◌*◌, ◌/◌, ◌≤◌, ◌<◌}
use Rattle.merge_tiles.specs.Accepted.{Accepted}
use Rattle.range_tiles.specs.declared.Upper.{Upper}
use Rattle.range_tiles.specs.EndSums.{end_taken, UpperFits}

-- where a row of the least sums starts
abbrev pub least_slot : (width row : ℕ) → ℕ
least_slot width row = 2 * row_words 16 width + slot_of 16 width row

-- accepted input, the upper noise in range, a row of pairs of a row parity, and room for two rows of both ends
pub record EndRowLent (m : Merge) (upper : Upper) (samples : List ℕ) (vectors : List ℤ) (rowParity row work : ℕ) : Type 0 where
  pub accepted : Accepted 16 m samples vectors
  pub upper_fits : UpperFits upper
  pub parity : rowParity < 2
  pub row-most : row ≤ m.shape.height / 16
  pub room : 4 * row_words 16 m.shape.width ≤ work

-- l has a row's words from `start` on
pub record RowAt (width : ℕ) (taken : Taking) (rowParity row start : ℕ) (l : List ℤ) : Type 0 where
  pub is : (k : ℕ) → k < row_words 16 width → get_or l (start + k) (pos 0) ≡ row_word 16 taken rowParity row k
  pub most : (k : ℕ) → k < row_words 16 width → nat_abs (row_word 16 taken rowParity row k) ≤ taken_most

-- place k is none of the n from `at` on
abbrev pub Outside : (at n k : ℕ) → Type 0
Outside at n k = (k < at) ⊎ (at + n ≤ k)

-- l is d with both ends of a row stored
pub record EndsStored (lower upper : Scene) (rowParity row : ℕ) (d l : List ℤ) : Type 0 where
  pub same : length l ≡ length d
  pub greatest : RowAt lower.width (end_taken greatest_at lower upper) rowParity row (slot_of 16 lower.width row) l
  pub least : RowAt lower.width (end_taken least_at lower upper) rowParity row (least_slot lower.width row) l
  pub kept : (k : ℕ) → Outside (slot_of 16 lower.width row) (row_words 16 lower.width) k → Outside (least_slot lower.width row) (row_words 16 lower.width) k → get_or l k (pos 0) ≡ get_or d k (pos 0)
