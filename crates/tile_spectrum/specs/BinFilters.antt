-- A filter of the bins of real differences that may be another one at each bin: it keeps the mirror image, and the inverse of what it gives is the sum back from
-- the folded columns 0 to n/2.
use Rattle.std.specs.Prelude.{◌≡◌, ◌+◌, ◌<◌}
use Rattle.tile_spectrum.specs.Prelude.{sym, ap, ap₂, ◌∙◌, ℕ, ℤ, neg_ℤ, away, Side, opposite_of, bin_re, bin_im, inverse_at}
use Rattle.tile_spectrum.specs.Spectrum.{MirroredOf, spread_of, back_sum_of}
use Rattle.tile_spectrum.specs.Turns.{Turns}
use Rattle.tile_spectrum.specs.SpectrumLaws.{bins-mirrored-of}
use Rattle.tile_spectrum.specs.FoldLaws.{inverse-folds}
use Rattle.tile_spectrum.specs.PlaceLaws.{spread-ext, back-ext}

-- f u v gives one part at bin (u, v), from that part b of the bin and the other part c: it changes sign with the one and not with the other, and is the same at
-- the mirror image
pub record BinFilter (s : Side) (f : (u v : ℕ) → ℤ → ℤ → ℤ) : Type 0 where
  pub odd : (u v : ℕ) (b c : ℤ) → f u v (neg_ℤ b) c ≡ neg_ℤ (f u v b c)
  pub even : (u v : ℕ) (b c : ℤ) → f u v b (neg_ℤ c) ≡ f u v b c
  pub mirror : (u v : ℕ) → u < s.side → v < s.side → (b c : ℤ) → f (opposite_of s u) (opposite_of s v) b c ≡ f u v b c

-- one part at each bin of g + i·h; the other is `filtered_by f h g`
abbrev pub filtered_by : (f : (u v : ℕ) → ℤ → ℤ → ℤ) (g h : ℕ → ℕ → ℤ) → ℕ → ℕ → ℤ
filtered_by f g h u v = f u v (g u v) (h u v)

module _ {s : Side} (t : Turns s) {f : (u v : ℕ) → ℤ → ℤ → ℤ} (filter : BinFilter s f) where
  mirrored : (g h : ℕ → ℕ → ℤ) → MirroredOf s g h → MirroredOf s (filtered_by f g h) (filtered_by f h g)
  mirrored g h m =
      record {
        re = λ u v i j. filter.mirror u v i j _ _ ∙ ap₂ (f u v) (m.re u v i j) (m.im u v i j) ∙ filter.even u v (g u v) (h u v);
        im = λ u v i j. filter.mirror u v i j _ _ ∙ ap₂ (f u v) (m.im u v i j) (m.re u v i j) ∙ filter.odd u v (h u v) (g u v);
      }

  -- of the bins of d, from the parts g and h in columns 0 to n/2
  pub turned-back : (d g h : ℕ → ℕ → ℤ) → ((u v : ℕ) → u < s.side → v < s.half + 1 → g u v ≡ filtered_by f (bin_re s d) (bin_im s d) u v) → ((u v : ℕ) → u < s.side → v < s.half + 1 → h u v ≡ filtered_by f (bin_im s d) (bin_re s d) u v)
      → (y x : ℕ) → y < s.side → x < s.side → away (back_sum_of s (spread_of s g h) y x) s.divisor ≡ inverse_at s (filtered_by f (bin_re s d) (bin_im s d)) (filtered_by f (bin_im s d) (bin_re s d)) y x
  unfolding inverse_at
  turned-back d g h p q y x i j =
      let re = filtered_by f (bin_re s d) (bin_im s d) in
      let im = filtered_by f (bin_im s d) (bin_re s d) in
      ap (λ z. away z s.divisor)
      (back-ext s _ _ (spread-ext t g h re im p q) y x ∙ sym (inverse-folds t re im y i (mirrored (bin_re s d) (bin_im s d) (bins-mirrored-of t d)) x j))
