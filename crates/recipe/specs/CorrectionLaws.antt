-- Laws of the recipe: |Q|² + V as a sum of squares, and the inverse sum by rows and then columns.
use Rattle.std.specs.Prelude.{◌≡◌, ◌∷◌, ◌*◌, ◌+ℤ◌, ◌-ℤ◌, ◌*ℤ◌}
use Rattle.algebra.specs.Prelude.{ap₂, ◌∙◌, [], ℕ, ℤ, pos}
use Rattle.algebra.specs.Order.{sq-abs}
use Rattle.algebra.specs.Ring.{var, ◌⊞◌, ◌⊟◌, ◌⊠◌, ring}
use Rattle.algebra.specs.Sums.{sum_z}
use Rattle.algebra.specs.SumLaws.{sum_z-cong, sum_z-scaler, sum_z-sub}
use Rattle.recipe.specs.Side.{Side, cos_at, sin_at}
use Rattle.recipe.specs.Correction.{power, twiddle_re, twiddle_im, inverse_re}

pub power-is : (v : ℕ) (q r : ℤ) → q *ℤ q +ℤ r *ℤ r +ℤ pos v ≡ pos (power v q r)
power-is v q r = ap₂ (λ s t. s +ℤ t +ℤ pos v) (sq-abs q) (sq-abs r)

-- the sums along the rows of g + i·h; the inverse sum is that of theirs along the columns
module _ (s : Side) (g h : ℕ → ℕ → ℤ) (x : ℕ) where
  unfoldable pub along_re : ℕ → ℤ
  along_re u = sum_z s.side (λ v. g u v *ℤ cos_at s (v * x) -ℤ h u v *ℤ sin_at s (v * x))

  unfoldable pub along_im : ℕ → ℤ
  along_im u = sum_z s.side (λ v. g u v *ℤ sin_at s (v * x) +ℤ h u v *ℤ cos_at s (v * x))

  pub two-way : (y : ℕ) → inverse_re s g h y x ≡ sum_z s.side (λ u. along_re u *ℤ cos_at s (u * y) -ℤ along_im u *ℤ sin_at s (u * y))
  unfolding inverse_re twiddle_re twiddle_im along_re along_im
  two-way y =
      sum_z-cong s.side _ _
      (λ u i. sum_z-cong s.side _ (λ v. (g u v *ℤ cos_at s (v * x) -ℤ h u v *ℤ sin_at s (v * x)) *ℤ cos_at s (u * y) -ℤ (g u v *ℤ sin_at s (v * x) +ℤ h u v *ℤ cos_at s (v * x)) *ℤ sin_at s (u * y))
      (λ v j. ring (cos_at s (u * y) ∷ sin_at s (u * y) ∷ cos_at s (v * x) ∷ sin_at s (v * x) ∷ g u v ∷ h u v ∷ [])
      ((var 0 ⊠ var 2 ⊟ var 1 ⊠ var 3) ⊠ var 4 ⊟ (var 0 ⊠ var 3 ⊞ var 1 ⊠ var 2) ⊠ var 5)
      ((var 4 ⊠ var 2 ⊟ var 5 ⊠ var 3) ⊠ var 0 ⊟ (var 4 ⊠ var 3 ⊞ var 5 ⊠ var 2) ⊠ var 1) tt)
      ∙ sum_z-sub s.side (λ v. (g u v *ℤ cos_at s (v * x) -ℤ h u v *ℤ sin_at s (v * x)) *ℤ cos_at s (u * y)) (λ v. (g u v *ℤ sin_at s (v * x) +ℤ h u v *ℤ cos_at s (v * x)) *ℤ sin_at s (u * y))
      ∙ ap₂ ◌-ℤ◌ (sum_z-scaler s.side (cos_at s (u * y)) (λ v. g u v *ℤ cos_at s (v * x) -ℤ h u v *ℤ sin_at s (v * x))) (sum_z-scaler s.side (sin_at s (u * y)) (λ v. g u v *ℤ sin_at s (v * x) +ℤ h u v *ℤ cos_at s (v * x))))
