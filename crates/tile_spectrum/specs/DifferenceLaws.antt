-- A correction depends on the tile's differences alone.
use Rattle.std.specs.Prelude.{◌≡◌, ◌*◌, ◌<◌, ◌+ℤ◌, ◌-ℤ◌, ◌*ℤ◌}
use Rattle.std.proofs.Math.Path.{ap, ap₂, fun_ext}
use Rattle.tile_spectrum.specs.Prelude.{ℕ, ℤ, neg_ℤ, Side, cos_at, sin_at, row_re, row_im, bin_re, bin_im, filtered, inverse_at, correction_at}
use Rattle.algebra.specs.SumLaws.{sum_z-cong}

module _ (s : Side) (d e : ℕ → ℕ → ℤ) (same : (y x : ℕ) → y < s.side → x < s.side → d y x ≡ e y x) where
  re-same : (y v : ℕ) → y < s.side → row_re s d y v ≡ row_re s e y v
  unfolding row_re
  re-same y v h = sum_z-cong s.side _ _ (λ x k. ap (λ z. z *ℤ cos_at s (v * x)) (same y x h k))

  im-same : (y v : ℕ) → y < s.side → row_im s d y v ≡ row_im s e y v
  unfolding row_im
  im-same y v h = sum_z-cong s.side _ _ (λ x k. ap (λ z. z *ℤ neg_ℤ (sin_at s (v * x))) (same y x h k))

  pub bin-re : bin_re s d ≡ bin_re s e
  unfolding bin_re
  bin-re = fun_ext (λ u. fun_ext (λ v. sum_z-cong s.side _ _ (λ y h. ap₂ (λ a b. a *ℤ cos_at s (u * y) -ℤ b *ℤ neg_ℤ (sin_at s (u * y))) (re-same y v h) (im-same y v h))))

  pub bin-im : bin_im s d ≡ bin_im s e
  unfolding bin_im
  bin-im = fun_ext (λ u. fun_ext (λ v. sum_z-cong s.side _ _ (λ y h. ap₂ (λ a b. a *ℤ neg_ℤ (sin_at s (u * y)) +ℤ b *ℤ cos_at s (u * y)) (re-same y v h) (im-same y v h))))

  pub correction-cong : (noise y x : ℕ) → correction_at s noise d y x ≡ correction_at s noise e y x
  unfolding correction_at
  correction-cong noise y x =
      ap₂ (λ re im. inverse_at s (λ u v. filtered s noise (re u v) (im u v)) (λ u v. filtered s noise (im u v) (re u v)) y x) bin-re bin-im
