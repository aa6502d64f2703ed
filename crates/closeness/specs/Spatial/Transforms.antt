-- The exact transform and its inverse, of fractions that are whole numbers over one denominator.
use Rattle.std.specs.Prelude.{◌*◌, ◌<◌}
use Rattle.closeness.specs.Spatial.Prelude.{ℕ, ℤ, pos, neg_ℤ, Frac, Side, cos_at, sin_at, row_re, row_im, bin_re, bin_im, twiddle_re, twiddle_im, inverse_re, exact_inverse_re, exact_row_re, exact_row_im, exact_bin_re, exact_bin_im}
use Rattle.algebra.specs.FractionLaws.{Near, near_add, near_sub, near-over}
use Rattle.algebra.specs.Numerators.{same_scale, same-scaled, same_sum}

pub inverse-same : (s : Side) {k : ℤ} (g h : ℕ → ℕ → ℤ) (g' h' : ℕ → ℕ → Frac) → ((u v : ℕ) → u < s.side → v < s.side → Near 0 1 (g u v) k (g' u v) × Near 0 1 (h u v) k (h' u v)) → (y x : ℕ) → Near 0 1 (inverse_re s g h y x) k (exact_inverse_re s g' h' y x)
unfolding inverse_re exact_inverse_re
inverse-same s g h g' h' e y x =
    same_sum s.side _ _
    (λ u i. same_sum s.side _ _
    (λ v j. near_sub (same_scale (twiddle_re s y x u v) (e u v i j).0) (same_scale (twiddle_im s y x u v) (e u v i j).1)))

module _ (s : Side) {k : ℕ} (a : ℕ → ℕ → ℤ) (m : ℕ → ℕ → Frac) (e : (y x : ℕ) → Near 0 1 (a y x) (pos k) (m y x)) where
  row-re-same : (y v : ℕ) → Near 0 1 (row_re s a y v) (pos k) (exact_row_re s m y v)
  unfolding row_re exact_row_re
  row-re-same y v = same_sum s.side _ _ (λ x i. same-scaled (cos_at s (v * x)) (e y x))

  row-im-same : (y v : ℕ) → Near 0 1 (row_im s a y v) (pos k) (exact_row_im s m y v)
  unfolding row_im exact_row_im
  row-im-same y v = same_sum s.side _ _ (λ x i. same-scaled (neg_ℤ (sin_at s (v * x))) (e y x))

  pub bin-re-same : (u v : ℕ) → Near 0 1 (bin_re s a u v) (pos (k * s.scale)) (exact_bin_re s m u v)
  unfolding bin_re exact_bin_re
  bin-re-same u v =
      near-over s.scale s.scale_above
      (same_sum s.side _ _ (λ y i. near_sub (same-scaled (cos_at s (u * y)) (row-re-same y v)) (same-scaled (neg_ℤ (sin_at s (u * y))) (row-im-same y v))))

  pub bin-im-same : (u v : ℕ) → Near 0 1 (bin_im s a u v) (pos (k * s.scale)) (exact_bin_im s m u v)
  unfolding bin_im exact_bin_im
  bin-im-same u v =
      near-over s.scale s.scale_above
      (same_sum s.side _ _ (λ y i. near_add (same-scaled (neg_ℤ (sin_at s (u * y))) (row-re-same y v)) (same-scaled (cos_at s (u * y)) (row-im-same y v))))
