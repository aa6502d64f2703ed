-- Request L8: for side 32 the output sample lies within one step of the exact merge's.
use Rattle.std.specs.Prelude.{◌+◌, ◌*◌, ◌≤◌, ◌<◌}
use Rattle.closeness.specs.Prelude.{refl, ℕ, suc, arith, lit<, ℤ, frac, whole, Within, correction_at, output_sample, exact_correction_at, exact_sample}
use Rattle.recipe.specs.Tables32.{cosines32, cosine32, sine32, side32}
use Rattle.recipe.specs.TableLaws32.{window-halves-32}
use Rattle.closeness.specs.Twiddles.{twiddles-small}
use Rattle.closeness.specs.Closeness.{Fitting, tile_error, tile-within, sample-within}

pub fitting32 : Fitting side32 379633849 4096
unfolding side32 cosines32 cosine32 sine32
fitting32 =
    record {
      scale_is = refl;
      divisor_is = refl;
      weight_is = refl;
      window_halves = window-halves-32;
      twiddle_small = twiddles-small 32 379633849 cosine32 sine32 tt;
    }

-- one tile: P/256 lies within 0.5323 of a sample step of p
pub tile32 : (noise : ℕ) (d : ℕ → ℕ → ℤ) (y x : ℕ) → Within 1170530151424 2199023255552 (frac (correction_at side32 noise d y x) 256 (lit< tt)) (exact_correction_at side32 noise d y x)
unfolding side32
tile32 = tile-within fitting32

-- one sample, for N = others + 1 up to 8 frames
module _ (a b others : ℕ) (noise : ℕ → ℕ) (d : ℕ → ℕ → ℕ → ℕ → ℤ) (t0 : ℤ) where
  pub one-step : a < 16 → b < 16 → others ≤ 7 → Within 1 1 (whole (output_sample side32 a b others noise d t0)) (exact_sample side32 a b others noise d t0)
  unfolding side32
  one-step k l few = sample-within fitting32 a b others noise d t0 k l 1 1 enough
    where
      enough : 1 * (others * tile_error side32 379633849 + 128 * (2 * side32.divisor * suc others)) ≤ 1 * (256 * (2 * side32.divisor * suc others))
      enough = omega arith
