-- The output sample of document 01 without a spatial filter. No contract cites it: the merged sample is this one at s = 0 (`plain-output`, closeness/Spatial/PlainLaws).
use Rattle.std.specs.Prelude.{◌*ℤ◌}
use Rattle.algebra.specs.Prelude.{ℕ, ℤ, pos}
use Rattle.algebra.specs.Sums.{sum_z}
use Rattle.recipe.specs.Side.{Side}
use Rattle.recipe.specs.Correction.{correction_at}
use Rattle.recipe.specs.Output.{row_in, column_in, weight_in, rounded}

-- tile t has the noise number `noise t`, and `d t z` are its differences to the z-th other frame: it puts the sum over the other frames of w·w'·P
unfoldable pub output_sample : (s : Side) (a b others : ℕ) (noise : ℕ → ℕ) (d : ℕ → ℕ → ℕ → ℕ → ℤ) (t0 : ℤ) → ℤ
output_sample s a b others noise d t0 =
    rounded s others (λ t. sum_z others (λ z. pos (weight_in s a b t) *ℤ correction_at s (noise t) (d t z) (row_in s a t) (column_in s b t))) t0
