-- Where only bin (0, 0) is set, the inverse sum is the same at every place of the tile.
use Rattle.algebra.specs.Prelude.{ap₂, ◌∙◌, ℕ, zero, suc, arith}
use Rattle.std.proofs.Math.Nat.{zero-mul}
use Rattle.std.specs.Prelude.{ℤ, ◌+ℤ◌, ◌-ℤ◌, ◌*ℤ◌, ◌≡◌, ◌+◌, ◌<◌}
use Rattle.std.proofs.Math.IntN.{pos, +ℤ_idl, +ℤ_idr}
use Rattle.algebra.specs.Sums.{sum_z}
use Rattle.recipe.specs.Side.{Side}
use Rattle.recipe.specs.Correction.{twiddle_re, twiddle_im, inverse_re}
use Rattle.tile_spectrum.specs.ZeroLaws.{sum_z-zero, less_zero}

-- a sum of its first term alone
pub first-only : (n : ℕ) (f : ℕ → ℤ) → 0 < n → ((i : ℕ) → 0 < i → i < n → f i ≡ pos 0) → sum_z n f ≡ f 0
unfolding sum_z
first-only zero f above h = absurd (omega arith)
first-only (suc zero) f above h = +ℤ_idl (f 0)
first-only (suc (suc n)) f above h = ap₂ ◌+ℤ◌ (first-only (suc n) f (omega arith) (λ i k l. h i k (omega arith))) (h (suc n) (omega arith) (omega arith)) ∙ +ℤ_idr (f 0)

module _ (s : Side) (g h : ℕ → ℕ → ℤ) (none : (u v : ℕ) → u < s.side → v < s.side → 0 < u + v → (g u v ≡ pos 0) × (h u v ≡ pos 0)) where
  pub lone-bin : (y x : ℕ) → inverse_re s g h y x ≡ twiddle_re s 0 0 0 0 *ℤ g 0 0 -ℤ twiddle_im s 0 0 0 0 *ℤ h 0 0
  unfolding inverse_re twiddle_re twiddle_im
  lone-bin y x =
      first-only s.side _ s.side_above (λ u k l. sum_z-zero s.side _ (λ v m. term-none u v l m (omega arith)))
      ∙ first-only s.side _ s.side_above (λ v k l. term-none 0 v s.side_above l (omega arith))
      ∙ rw (zero-mul y, zero-mul x)
    where
      term-none : (u v : ℕ) → u < s.side → v < s.side → 0 < u + v → twiddle_re s y x u v *ℤ g u v -ℤ twiddle_im s y x u v *ℤ h u v ≡ pos 0
      term-none u v k l m = less_zero (twiddle_re s y x u v) (g u v) (twiddle_im s y x u v) (h u v) (none u v k l m).0 (none u v k l m).1
