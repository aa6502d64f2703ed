-- The recipe is close to the exact merge, on one tile and at one sample, for any side whose tables and scales fit together.
use Rattle.std.specs.Prelude.{◌≡◌, ◌+◌, ◌*◌, ◌%◌, ◌≤◌, ◌<◌, ◌+ℤ◌, ◌-ℤ◌, ◌*ℤ◌}
use Rattle.closeness.specs.Prelude.{sym, ◌∙◌, ap, subst, ℕ, suc, arith, lit<, ℤ, pos, nat_abs, Frac, frac, whole, ◌-F◌, over, sum_f, Within, Side, cos_at, sin_at, bin_re, bin_im, twiddle_re, twiddle_im, inverse_re, inverse_at, correction_at, output_sample, exact_inverse_re, exact_inverse_at, exact_correction_at, unrounded, exact_sample}
use Rattle.std.proofs.Math.Nat.{mul-pos}
use Rattle.std.proofs.Common.{mul-le-mul_left, mod-lt, one-mul}
use Rattle.algebra.specs.Sums.{sum_z}
use Rattle.algebra.specs.SumLaws.{sum_n-scale}
use Rattle.algebra.specs.NearestLaws.{away-rounds, upward-rounds}
use Rattle.algebra.specs.FractionLaws.{Near, near_sub, near-scale, near-sum, near-sums, near-mono, near-over, near-rounds, near-whole, near-held, near-one, near-frac}
use Rattle.recipe.specs.Output.{row_in, column_in, weight_in, rounded}
use Rattle.closeness.specs.Bins.{bin-near}
use Rattle.closeness.specs.Windows.{four-windows}

-- The scales fit together, and no factor of the inverse is larger than `most`, as |Re| + |Im|; w is the windows' scale
pub record Fitting (s : Side) (most w : ℕ) : Type 0 where
  pub scale_is : s.parts * s.quantum ≡ s.scale
  pub divisor_is : s.parts * (s.side * s.side * s.scale) ≡ 256 * s.divisor
  pub weight_is : w * w ≡ s.weight
  pub window_halves : (i : ℕ) → i < s.half → s.window i + s.window (i + s.half) ≡ w
  pub twiddle_small : (a b : ℕ) → a < s.side → b < s.side →
      nat_abs (s.cosine a *ℤ s.cosine b -ℤ s.sine a *ℤ s.sine b) + nat_abs (s.cosine a *ℤ s.sine b +ℤ s.sine a *ℤ s.cosine b) ≤ most

-- P is within tile_error/(2·divisor) of 256·p: 3/2 for each of side² bins, times its factor, over the divisor, and 1/2 for P's rounding
abbrev pub tile_error : Side → ℕ → ℕ
tile_error s most = 3 * (s.side * s.side * most) + s.divisor

module _ {s : Side} {most w : ℕ} (t : Fitting s most w) where
  pub twiddle : (y x u v : ℕ) → nat_abs (twiddle_re s y x u v) + nat_abs (twiddle_im s y x u v) ≤ most
  unfolding twiddle_re twiddle_im cos_at sin_at
  twiddle y x u v =
      t.twiddle_small ((u * y) % s.side) ((v * x) % s.side) (mod-lt (u * y) s.side_above) (mod-lt (v * x) s.side_above)

  -- the inverse, of any G whose parts are within 3/2 of `parts` times the exact ones
  module _ (g h : ℕ → ℕ → ℤ) (g' h' : ℕ → ℕ → Frac) (p : (u v : ℕ) → Near 3 2 (g u v) (pos s.parts) (g' u v)) (q : (u v : ℕ) → Near 3 2 (h u v) (pos s.parts) (h' u v)) (y x : ℕ) where
    sum_near : Near (s.side * (s.side * (3 * most))) 2 (inverse_re s g h y x) (pos s.parts) (exact_inverse_re s g' h' y x)
    unfolding inverse_re exact_inverse_re
    sum_near =
        near-sums s.side _ _
        (λ u i. near-sums s.side _ _
        (λ v j. near-mono (lit< tt) (omega (arith, twiddle y x u v)) (near_sub (near-scale (twiddle_re s y x u v) (p u v)) (near-scale (twiddle_im s y x u v) (q u v)))))

    pub inverse-near : Near (tile_error s most) (2 * s.divisor) (inverse_at s g h y x) (pos 256) (exact_inverse_at s g' h' y x)
    unfolding inverse_at exact_inverse_at
    inverse-near =
        near-mono (omega (arith, s.divisor_above)) (omega arith)
        (near-rounds (subst (λ k. Near (s.side * (s.side * (3 * most))) 2 (inverse_re s g h y x) (pos k) (over (exact_inverse_re s g' h' y x) (s.side * s.side * s.scale) s.size_above)) t.divisor_is (near-over (s.side * s.side * s.scale) s.size_above sum_near))
        (away-rounds (inverse_re s g h y x) s.divisor s.divisor_above))

  module _ (noise : ℕ) (d : ℕ → ℕ → ℤ) (y x : ℕ) where
    pub tile-near : Near (tile_error s most) (2 * s.divisor) (correction_at s noise d y x) (pos 256) (exact_correction_at s noise d y x)
    unfolding correction_at exact_correction_at
    tile-near =
        let bin : (b c : ℤ) → Near 3 2 _ (pos s.parts) _ = bin-near s s.quantum_above t.scale_is noise in
        inverse-near _ _ _ _ (λ u v. bin (bin_re s d u v) (bin_im s d u v)) (λ u v. bin (bin_im s d u v) (bin_re s d u v)) y x

    -- one tile: P/256 is within tile_error/(512·divisor) of p
    pub tile-within : Within (tile_error s most) (2 * s.divisor * 256) (frac (correction_at s noise d y x) 256 (lit< tt)) (exact_correction_at s noise d y x)
    tile-within = near-frac (lit< tt) tile-near

  -- one sample: tiles at row a and column b of the half step. Tile t puts P t, within e·w·w'/f of 256 times what it puts to the exact sum
  module _ (a b others e f : ℕ) (P : ℕ → ℤ) (p : ℕ → Frac) (t0 : ℤ) (k : a < s.half) (l : b < s.half) (f-above : 0 < f) (h : (i : ℕ) → i < 4 → Near (e * weight_in s a b i) f (P i) (pos 256) (p i)) where
    windows-near : Near (e * s.weight) f (sum_z 4 P) (pos 256) (sum_f 4 p)
    windows-near =
        subst (λ m. Near m f (sum_z 4 P) (pos 256) (sum_f 4 p)) (sum_n-scale 4 e (weight_in s a b) ∙ ap (λ m. e * m) (four-windows s w t.window_halves a b k l ∙ t.weight_is))
        (near-sum 4 (λ t. e * weight_in s a b t) P p h)

    -- m/n is at least 1/2 + e/(256·f·N)
    pub rounded-within : (m n : ℕ) → n * (e + 128 * (f * suc others)) ≤ m * (256 * (f * suc others)) → Within m n (whole (rounded s others P t0)) (unrounded s others p t0)
    rounded-within m n i =
        near-one
        (near-held 4095
        (near-mono (mul-pos {m = 2} (lit< tt) (mul-pos f-above above)) (omega (arith, mul-le-mul_left (2 * s.weight) i))
        (near-rounds
        (subst (λ k. Near (0 + e * s.weight) f (t0 *ℤ pos (256 * (s.weight * suc others)) -ℤ sum_z 4 P) (pos k) (whole t0 -F over (sum_f 4 p) (s.weight * suc others) (mul-pos s.weight_above (omega arith)))) (sym (one-mul (256 * (s.weight * suc others))))
        (near_sub (near-whole f (256 * (s.weight * suc others)) t0) (near-over (s.weight * suc others) (mul-pos s.weight_above (omega arith)) windows-near)))
        (upward-rounds _ (256 * (s.weight * suc others)) above))))
      where
        above : 0 < 256 * (s.weight * suc others)
        above = mul-pos {m = 256} (lit< tt) (mul-pos s.weight_above (omega arith))

  -- the base's sample, with `others` other frames: m/n is at least 1/2 + (N − 1)/N·tile_error/(512·divisor)
  pub sample-within : (a b others : ℕ) (noise : ℕ → ℕ) (d : ℕ → ℕ → ℕ → ℕ → ℤ) (t0 : ℤ) → a < s.half → b < s.half → (m n : ℕ) →
      n * (others * tile_error s most + 128 * (2 * s.divisor * suc others)) ≤ m * (256 * (2 * s.divisor * suc others)) → Within m n (whole (output_sample s a b others noise d t0)) (exact_sample s a b others noise d t0)
  unfolding output_sample exact_sample
  sample-within a b others noise d t0 k l =
      rounded-within a b others (others * tile_error s most) (2 * s.divisor) _ _ t0 k l above
      (λ i j. near-mono above (omega arith) (near-sums others _ _ (λ z m. near-scale (pos (weight_in s a b i)) (tile-near (noise i) (d i z) (row_in s a i) (column_in s b i)))))
    where
      above : 0 < 2 * s.divisor
      above = mul-pos {m = 2} (lit< tt) s.divisor_above
