-- P of a tile of differences d from the folded G of its bins.
use Rattle.std.specs.Prelude.{◌≡◌, ◌+◌, ◌<◌}
use Rattle.tile_spectrum.specs.Prelude.{refl, ap₂, ℕ, ℤ, away, Side, bin_re, bin_im, filtered, correction_at}
use Rattle.tile_spectrum.specs.Spectrum.{BinsHeld, spread_of, back_sum_of, gain_re_of, gain_im_of}
use Rattle.tile_spectrum.specs.Turns.{Turns}
use Rattle.tile_spectrum.specs.SpectrumLaws.{filtered-odd-of, filtered-even-of}
use Rattle.tile_spectrum.specs.BinFilters.{BinFilter, turned-back}

-- V is the same at each bin
one-noise : (s : Side) (noise : ℕ) → BinFilter s (λ u v. filtered s noise)
one-noise s noise = record { odd = λ u v. filtered-odd-of s noise; even = λ u v. filtered-even-of s noise; mirror = λ u v i j b c. refl }

-- from the bins b of d on, for any side
module _ {s : Side} (t : Turns s) (noise : ℕ) (d b : ℕ → ℕ → ℤ) (m : BinsHeld s d b) where
  gain-re : (u v : ℕ) → u < s.side → v < s.half + 1 → gain_re_of s noise b u v ≡ filtered s noise (bin_re s d u v) (bin_im s d u v)
  unfolding gain_re_of
  gain-re u v h l = ap₂ (filtered s noise) (m.re u v h l) (m.im u v h l)

  gain-im : (u v : ℕ) → u < s.side → v < s.half + 1 → gain_im_of s noise b u v ≡ filtered s noise (bin_im s d u v) (bin_re s d u v)
  unfolding gain_im_of
  gain-im u v h l = ap₂ (filtered s noise) (m.im u v h l) (m.re u v h l)

  pub corrected : (y x : ℕ) → y < s.side → x < s.side → away (back_sum_of s (spread_of s (gain_re_of s noise b) (gain_im_of s noise b)) y x) s.divisor ≡ correction_at s noise d y x
  unfolding correction_at
  corrected = turned-back t (one-noise s noise) d (gain_re_of s noise b) (gain_im_of s noise b) gain-re gain-im
