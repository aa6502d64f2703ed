-- Inner vocabulary: where an offset is tried, and what that gives.
use Rattle.std.specs.Prelude.{◌≡◌, ◌+◌, ◌*◌, ◌≤◌, ◌<◌, MatchOption}
use Rattle.align_search.specs.Trials.Prelude.{List, ℕ, sum_n, Compared}
use Rattle.align_search.specs.declared.trials.Tried.{Tried}
use Rattle.align_search.specs.Trials.Rows.{rows}

-- a tile and a window that reaches 4 samples further each way, in which an offset's first sample lies in row y and column x
pub record InWindow (tile window : List ℕ) (side y x : ℕ) : Type 0 where
  pub compared : Compared tile window (side * side) ((side + 8) * (side + 8))
  pub vertical : y ≤ 8
  pub sideways : x ≤ 8

-- an offset whose n rows have the sums f was tried against low: the rows that the rule counts, and the total, or none where it has reached low
pub record Left (low : ℕ) (f : ℕ → ℕ) (n : ℕ) (r : Tried) : Type 0 where
  pub rows_are : r.rows ≡ rows low f n
  pub found : MatchOption r.least (low ≤ sum_n n f) (λ total. (total < low) × (total ≡ sum_n n f))
