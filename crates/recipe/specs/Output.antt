-- The tiles over an output sample, and how what they put is summed and rounded.
use Rattle.std.specs.Prelude.{◌+◌, ◌*◌, ◌/◌, ◌%◌, ◌-ℤ◌, ◌*ℤ◌}
use Rattle.algebra.specs.Prelude.{ℕ, suc, ℤ, pos}
use Rattle.algebra.specs.Sums.{sum_z}
use Rattle.algebra.specs.Clamp.{clamp_z}
use Rattle.algebra.specs.Nearest.{upward}
use Rattle.recipe.specs.Side.{Side}

-- Four tiles lie over a sample, two by two. It is row a and column b, below the half step, of the last; tile t = 0..3, counted from the last, has it here
abbrev pub row_in : Side → ℕ → ℕ → ℕ
row_in s a t = a + t / 2 * s.half

abbrev pub column_in : Side → ℕ → ℕ → ℕ
column_in s b t = b + t % 2 * s.half

-- N = others + 1 frames, and tile t puts P t to the sum: T0 − (sum over the four tiles)/(256·weight·N), to nearest, halves upward, held to 0..4095;
-- 256·weight is 2^32 for side 16
abbrev pub rounded : Side → (others : ℕ) (P : ℕ → ℤ) (t0 : ℤ) → ℤ
rounded s others P t0 =
    let whole = 256 * (s.weight * suc others) in
    clamp_z (pos 0) (pos 4095) (upward (t0 *ℤ pos whole -ℤ sum_z 4 P) whole)

module _ (s : Side) (a b : ℕ) where
  -- w·w' of tile t at the sample
  abbrev pub weight_in : ℕ → ℕ
  weight_in t = s.window (row_in s a t) * s.window (column_in s b t)
