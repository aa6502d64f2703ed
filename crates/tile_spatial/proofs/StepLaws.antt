-- P' from the folded step on the copy's bins.
use Rattle.std.specs.Prelude.{◌≡◌, ◌^◌, ◌<◌}
use Rattle.tile_spatial.specs.Prelude.{ap, ap₂, ◌∙◌, ℕ, lit<, ℤ, neg_ℤ, eqb, away, side16, wiener, bin_re, bin_im, copy_quantized, copy_filtered, frequency, spread, back_sum}
use lib.Dec.{eqb→eq}
use Rattle.algebra.specs.NearestLaws.{away-odd}
use Rattle.algebra.specs.Test.{all_sound}
use Rattle.recipe.specs.TableLaws.{opposite}
use Rattle.tile_spectrum.specs.Turns.{turns16}
use Rattle.tile_spectrum.specs.SpectrumLaws.{wiener-odd, wiener-even}
use Rattle.tile_spectrum.specs.BinFilters.{BinFilter, filtered_by, turned-back}
use Rattle.tile_spatial.specs.Filtering.{bin_noise, step_at}

quantized-odd : (b : ℤ) → copy_quantized side16 (neg_ℤ b) ≡ neg_ℤ (copy_quantized side16 b)
unfolding copy_quantized side16
quantized-odd b = away-odd b (2 ^ 32) (lit< tt)

copy-odd : (noise : ℕ) (b c : ℤ) → copy_filtered side16 noise (neg_ℤ b) c ≡ neg_ℤ (copy_filtered side16 noise b c)
unfolding copy_filtered
copy-odd noise b c =
    ap (λ q. wiener noise q (copy_quantized side16 c)) (quantized-odd b) ∙ wiener-odd noise (copy_quantized side16 b) (copy_quantized side16 c)

copy-even : (noise : ℕ) (b c : ℤ) → copy_filtered side16 noise b (neg_ℤ c) ≡ copy_filtered side16 noise b c
unfolding copy_filtered
copy-even noise b c =
    ap (wiener noise (copy_quantized side16 b)) (quantized-odd c) ∙ wiener-even noise (copy_quantized side16 b) (copy_quantized side16 c)

-- V' is that of the mirror image
frequency-opposite : (u : ℕ) → u < 16 → frequency (opposite u) ≡ frequency u
unfolding frequency
frequency-opposite u h = eqb→eq _ _ (all_sound 16 (λ u. eqb (frequency (opposite u)) (frequency u)) tt u h)

module _ (noise : ℕ → ℕ → ℕ) where
  abbrev pub step : (u v : ℕ) → ℤ → ℤ → ℤ
  step u v = copy_filtered side16 (bin_noise noise u v)

  by-bin : BinFilter side16 step
  unfolding side16
  by-bin =
      record {
        odd = λ u v. copy-odd (bin_noise noise u v);
        even = λ u v. copy-even (bin_noise noise u v);
        mirror = λ u v i j b c. ap₂ (λ m n. copy_filtered side16 (noise m n) b c) (frequency-opposite u i) (frequency-opposite v j);
      }

  -- of the copy c, from the step (g, h) on its bins in columns 0 to 8
  pub steps_back : (c g h : ℕ → ℕ → ℤ) → ((u v : ℕ) → u < 16 → v < 9 → g u v ≡ filtered_by step (bin_re side16 c) (bin_im side16 c) u v) → ((u v : ℕ) → u < 16 → v < 9 → h u v ≡ filtered_by step (bin_im side16 c) (bin_re side16 c) u v)
      → (y x : ℕ) → y < 16 → x < 16 → away (back_sum (spread g h) y x) (2 ^ 32) ≡ step_at (bin_noise noise) c y x
  unfolding step_at side16
  steps_back = turned-back turns16 by-bin
