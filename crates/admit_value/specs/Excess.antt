-- The test of a row of samples, 64 at a time, as the code of refusal 11 makes it. Inner vocabulary.
use Rattle.std.specs.Prelude.{◌+◌, ◌/◌}
use Rattle.algebra.specs.Prelude.{Bool, List, ℕ, ltb, get_or}
use Rattle.algebra.specs.Sums.{sum_n}
use Rattle.refusals.specs.Some.{some}

-- of the 64 samples from i on, as a sum: 0 exactly where none is above 4095 (`block-above`, `block-passed`)
unfoldable pub excess : List ℕ → ℕ → ℕ
excess samples i = sum_n 64 (λ k. get_or samples (i + k) 0 / 4096)

-- a sample's test, by its column in the row that starts at `start`
unfoldable pub above : List ℕ → (start : ℕ) → ℕ → Bool
above samples start column = ltb 4095 (get_or samples (start + column) 0)

-- one of the row's samples is above 4095
unfoldable pub row_above : List ℕ → (start width : ℕ) → Bool
row_above samples start width = some width (above samples start)
