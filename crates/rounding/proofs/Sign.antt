-- Rounding away from zero by a number's sign and its absolute value, with the number as the code holds it.
use Rattle.std.specs.Prelude.{◌≡◌, ◌-◌, ◌^◌, ◌≤◌, ◌<◌, ◌-ℤ◌}
use Rattle.algebra.specs.Prelude.{ap, subst, ◌∙◌, true, false, ℕ, arith, T, ℤ, pos, negsuc, nat_abs, neg_ℤ, w64, SFits, to_z, of_z, to_z-of_z}
use lib.Signed.{lt_z}
use borrow.Author.Tests.{ltb-true}
use Rattle.algebra.specs.Bound.{neg-fits}
use Rattle.algebra.specs.Nearest.{away, upward}

pub minus-fits : (z : ℤ) → nat_abs z < 2 ^ 63 → SFits w64 (pos 0 -ℤ z)
minus-fits z h = neg-fits w64 z 0 (2 ^ 63 - 1) (record { most = omega arith }) tt

away-neg : (z : ℤ) (m n : ℕ) → lt_z z (pos 0) ≡ true → pos n ≡ upward (pos (nat_abs z)) m → neg_ℤ (pos n) ≡ away z m
unfolding away upward
away-neg (pos a) m n e h = absurd (omega (arith, ltb-true a 0 e))
away-neg (negsuc a) m n e h = ap neg_ℤ h

away-pos : (z : ℤ) (m n : ℕ) → lt_z z (pos 0) ≡ false → pos n ≡ upward (pos (nat_abs z)) m → pos n ≡ away z m
unfolding away upward
away-pos (pos a) m n e h = h
away-pos (negsuc a) m n e h = absurd (subst T e tt)

-- the absolute value a, and a rounded to n; the test z < 0, taken or left
module _ {z : ℤ} {a : ℕ} (m n : ℕ) (f : SFits w64 z) (is : a ≡ nat_abs (to_z w64 (of_z w64 z))) where
  same : a ≡ nat_abs z
  same = is ∙ ap nat_abs (to_z-of_z f)

  pub half-fits : n ≤ a → nat_abs z < 2 ^ 63 → n < 2 ^ 63
  half-fits l h = omega (arith, same)

  pub away-below : lt_z (to_z w64 (of_z w64 z)) (pos 0) ≡ true → pos n ≡ upward (pos a) m → neg_ℤ (pos n) ≡ away z m
  away-below e h = away-neg z m n (rw (to_z-of_z f) at e) (rw same at h)

  pub away-from : lt_z (to_z w64 (of_z w64 z)) (pos 0) ≡ false → pos n ≡ upward (pos a) m → pos n ≡ away z m
  away-from e h = away-pos z m n (rw (to_z-of_z f) at e) (rw same at h)
