-- Bounds on integers as records, so that their arguments are found, and what search needs to show that a signed operation fits.
use Rattle.algebra.specs.Prelude.{subst, true, false, ℕ, zero, suc, arith, ℤ, pos, negsuc, nat_abs, neg_ℤ, to_z-of_z}
use Rattle.std.specs.Int.Signed.{mag, quot_z, shr_z, mag_shr, non_neg, lt_z}
use Rattle.std.proofs.Math.IntN.{+ℤ_idl}
use Rattle.std.proofs.Common.{zero-le, div-le_self, ltb-true, ltb→lt}
use Rattle.std.proofs.Math.Facts.{sfits_widen, Fits-nat_abs}
use Rattle.std.specs.Prelude.{T, ltb, ◌≡◌, ◌+◌, ◌*◌, ◌/◌, ◌^◌, ◌≤◌, ◌<◌, ◌+ℤ◌, ◌-ℤ◌, ◌*ℤ◌}
use Rattle.std.specs.Int.{Width, w32, w64}
use mir.Val.{SFits, Fits, hbits, bits}
use mir.ValLaws.{sfits_le}
use Rattle.algebra.specs.Order.{abs-add, abs_neg, abs-mul-le}
use Rattle.algebra.specs.Fit.{mag-abs}

-- |z| ≤ b
pub record AtMost (b : ℕ) (z : ℤ) : Type 0 where
  pub most : nat_abs z ≤ b

pub most_fits : (w : Width) (z : ℤ) (a : ℕ) → AtMost a z → T (ltb a (2 ^ hbits w)) → SFits w z
most_fits w z a h t = record { sfits = omega (arith, mag-abs z, h.most, ltb→lt a (2 ^ hbits w) t) }

pub add_most : {a b : ℕ} {x y : ℤ} → AtMost a x → AtMost b y → AtMost (a + b) (x +ℤ y)
add_most {a} {b} {x} {y} h k = record { most = omega (arith, abs-add x y, h.most, k.most) }

pub sub-most : {a b : ℕ} {x y : ℤ} → AtMost a x → AtMost b y → AtMost (a + b) (x -ℤ y)
sub-most {a} {b} {x} {y} h k = record { most = omega (arith, abs-add x (neg_ℤ y), abs_neg y, h.most, k.most) }

pub mul_most : {a b : ℕ} {x y : ℤ} → AtMost a x → AtMost b y → AtMost (a * b) (x *ℤ y)
mul_most {a} {b} {x} {y} h k = record { most = abs-mul-le x y h.most k.most }

pub add-fits : (w : Width) (x y : ℤ) (a b : ℕ) → AtMost a x → AtMost b y → T (ltb (a + b) (2 ^ hbits w)) → SFits w (x +ℤ y)
add-fits w x y a b h k t = most_fits w (x +ℤ y) (a + b) (add_most h k) t

pub sub-fits : (w : Width) (x y : ℤ) (a b : ℕ) → AtMost a x → AtMost b y → T (ltb (a + b) (2 ^ hbits w)) → SFits w (x -ℤ y)
sub-fits w x y a b h k t = most_fits w (x -ℤ y) (a + b) (sub-most h k) t

pub mul-fits : (w : Width) (x y : ℤ) (a b : ℕ) → AtMost a x → AtMost b y → T (ltb (a * b) (2 ^ hbits w)) → SFits w (x *ℤ y)
mul-fits w x y a b h k t = most_fits w (x *ℤ y) (a * b) (mul_most h k) t

-- a literal
pub lit-most : (n : ℕ) → AtMost n (pos n)
lit-most n = record { most = omega arith }

pub add-lit-fits : (w : Width) (x : ℤ) (n a : ℕ) → AtMost a x → T (ltb (a + n) (2 ^ hbits w)) → SFits w (x +ℤ pos n)
add-lit-fits w x n a h t = add-fits w x (pos n) a n h (lit-most n) t

pub neg-fits : (w : Width) (x : ℤ) (n a : ℕ) → AtMost a x → T (ltb (n + a) (2 ^ hbits w)) → SFits w (pos n -ℤ x)
neg-fits w x n a h t = sub-fits w (pos n) x n a (lit-most n) h t

pub shr-fits : (w : Width) (z : ℤ) (m : ℕ) → SFits w z → SFits w (shr_z z m)
shr-fits w z m h = sfits_le (mag_shr z m) h

mag-neg : (r a : ℕ) → r ≤ suc a → mag (neg_ℤ (pos r)) ≤ a
mag-neg zero a h = zero-le
mag-neg (suc r) a h = omega arith

mag-quot : (z : ℤ) (n : ℕ) → mag (quot_z z (pos n)) ≤ mag z
mag-quot (pos a) n = div-le_self a n
mag-quot (negsuc a) n = mag-neg (suc a / n) a (div-le_self (suc a) n)

pub quot_fits : (w : Width) (z : ℤ) (n : ℕ) → SFits w z → SFits w (quot_z z (pos n))
quot_fits w z n h = sfits_le (mag-quot z n) h

pub widen-fits : (z : ℤ) → SFits w32 z → SFits w64 z
widen-fits z h = sfits_widen tt h

pub zero_minus : (z : ℤ) → pos 0 -ℤ z ≡ neg_ℤ z
zero_minus z = +ℤ_idl (neg_ℤ z)

none : (i : ℕ) → i < 0 → ⊥
none i h = omega arith

-- a test of the sign
pub below-zero : (z : ℤ) → lt_z z (pos 0) ≡ true → T (non_neg (neg_ℤ z))
below-zero (pos zero) e = tt
below-zero (pos (suc n)) e = absurd (none (suc n) (ltb-true (suc n) 0 e))
below-zero (negsuc n) e = tt

pub from_zero : (z : ℤ) → lt_z z (pos 0) ≡ false → T (non_neg z)
from_zero (pos n) e = tt
from_zero (negsuc n) e = subst T e tt

pub abs-fits : (w w' : Width) (z : ℤ) → T (ltb (hbits w) (bits w')) → SFits w z → Fits w' (nat_abs z)
abs-fits w w' z t h = Fits-nat_abs t h

abs-shr : (z : ℤ) (m : ℕ) → nat_abs (shr_z z m) ≤ nat_abs z
abs-shr (pos a) m = div-le_self a m
abs-shr (negsuc a) m = omega (arith, div-le_self a m)

pub negz-fits : (w : Width) (x : ℤ) (a : ℕ) → AtMost a x → T (ltb a (2 ^ hbits w)) → SFits w (neg_ℤ x)
negz-fits w x a h t = most_fits w (neg_ℤ x) a (record { most = omega (arith, abs_neg x, h.most) }) t

pub ruleset signed = (most_fits, negz-fits, add-fits, sub-fits, mul-fits, add-lit-fits, neg-fits, shr-fits, quot_fits, widen-fits, abs-fits, zero_minus, to_z-of_z, tt)
