-- Demand 3 for side 16: the output sample lies within five eighths of the exact merge's.
use Rattle.std.specs.Prelude.{◌+◌, ◌*◌, ◌≤◌, ◌<◌}
use Rattle.closeness.specs.Prelude.{refl, ℕ, suc, arith, lit<, ℤ, frac, whole, Within, correction_at, output_sample, exact_correction_at, exact_sample}
use Rattle.recipe.specs.Tables.{cosines, cosine16, sine16, side16}
use Rattle.recipe.specs.TableLaws.{window_halves}
use Rattle.closeness.specs.Twiddles.{twiddles-small}
use Rattle.closeness.specs.Closeness.{Fitting, tile_error, tile-within, sample-within}

pub fitting16 : Fitting side16 379633849 4096
unfolding side16 cosines cosine16 sine16
fitting16 =
    record {
      scale_is = refl;
      divisor_is = refl;
      weight_is = refl;
      window_halves = window_halves;
      twiddle_small = twiddles-small 16 379633849 cosine16 sine16 tt;
    }

-- one tile: P/256 lies within 0.1346 of a sample step of p
pub tile16 : (noise : ℕ) (d : ℕ → ℕ → ℤ) (y x : ℕ) → Within 295853763328 2199023255552 (frac (correction_at side16 noise d y x) 256 (lit< tt)) (exact_correction_at side16 noise d y x)
unfolding side16
tile16 = tile-within fitting16

-- one sample, for N = others + 1 up to 8 frames
module _ (a b others : ℕ) (noise : ℕ → ℕ) (d : ℕ → ℕ → ℕ → ℕ → ℤ) (t0 : ℤ) where
  pub five-eighths : a < 8 → b < 8 → others ≤ 7 → Within 5 8 (whole (output_sample side16 a b others noise d t0)) (exact_sample side16 a b others noise d t0)
  unfolding side16
  five-eighths k l few = sample-within fitting16 a b others noise d t0 k l 5 8 enough
    where
      enough : 8 * (others * tile_error side16 379633849 + 128 * (2 * side16.divisor * suc others)) ≤ 5 * (256 * (2 * side16.divisor * suc others))
      enough = omega arith
