-- The code's float comparisons decide the tests of the definitions, by cases on the float.
use Rattle.std.specs.Prelude.{◌≡◌, ◌+◌, ◌*◌, ◌^◌, ◌<◌}
use Rattle.noise.specs.Prelude.{refl, sym, ◌∙◌, true, false, not, ℕ, zero, suc, arith, ltb, ℤ, pos, Float, nan, inf, fin, up, down, lt}
use native.Mathlib.Nat.{mul-one, one-mul, zero-mul, add-zero, mul-pos}
use lib.Ieee.Fits.{up_pos}
use borrow.Author.Tests.{lt-ltb, ltb-true}
use Rattle.noise.specs.Level.{invalid, exceeds}

-- x > 2 ^ k
pub above : (k : ℕ) (x : Float) → lt (fin false 1 (pos k)) x ≡ exceeds (2 ^ k) x
unfolding lt
above k nan = refl
above k (inf s) = refl
above k (fin true m e) = refl
above k (fin false m e) = simp (one-mul, mul-one)

positive-still : (m : ℕ) (e : ℤ) → ltb 0 (m * up e * 1 + 0 * down e) ≡ ltb 0 m
positive-still zero e = simp zero-mul
positive-still (suc m) e =
    let p : 0 < suc m * up e = mul-pos (omega arith) (up_pos e) in
    simp (mul-one, zero-mul, add-zero, lt-ltb 0 (suc m * up e) p, lt-ltb 0 (suc m) (omega arith))

none : (m : ℕ) (e : ℤ) → m * up e * 1 < 0 * down e → ⊥
none m e h = omega (arith, zero-mul (down e))

-- x < 0
pub below-zero : (x : Float) → lt x (fin false 0 (pos 0)) ≡ true → invalid x ≡ true
unfolding lt
below-zero nan h = refl
below-zero (inf s) h = refl
below-zero (fin true m e) h = sym (positive-still m e) ∙ h
below-zero (fin false m e) h = absurd (none m e (ltb-true _ _ h))

-- x not < infinity
pub not-below-infinity : (x : Float) → lt x (fin false 0 (pos 0)) ≡ false → not (lt x (inf false)) ≡ invalid x
unfolding lt
not-below-infinity nan h = refl
not-below-infinity (inf true) h = sym h
not-below-infinity (inf false) h = refl
not-below-infinity (fin true m e) h = sym h ∙ positive-still m e
not-below-infinity (fin false m e) h = refl
