-- Floats that are whole numbers: a sum and a product are exact as far as the format counts without a gap, and from 2^(prec − 1) on the bits count them.
use Rattle.algebra.specs.Prelude.{sym, ap₂, T, eqb, ap, ◌∙◌, Bool, true, false, ℕ, suc, arith, lit<, ℤ, pos, negsuc, nat_abs}
use Rattle.std.proofs.lemmas.Bool.{false≢true}
use Rattle.std.proofs.Common.{mul-pos, mul-div_cancel, lt_of_not-le, lt_of_lt_of_le, not-le_of_lt, mul-lt-mul_of_pos_right, mul-le-mul_right, eqb→eq, pow-add, pow_pos, pow_mono}
use Rattle.std.proofs.Math.Nat.{eq_of_mul-eq-mul_right}
use Rattle.std.specs.Prelude.{Float, ◌≡◌, ◌&&◌, ◌+◌, ◌-◌, ◌*◌, ◌/◌, ◌^◌, ◌≤◌, ◌<◌}
use Rattle.std.specs.Float.{Format}
use Rattle.std.specs.Float.Ieee.{prec, low, up, down, size, hid, unlike, round, add, mul, eq, of_int, to_bits}
use Rattle.std.specs.Float.Ieee.Digits.{size-lt, size-le}
use Rattle.std.specs.Float.Ieee.Fits.{down_pos, two}
use Rattle.std.specs.Float.Ieee.Back.{round_whole}
use Rattle.std.specs.Float.Ieee.Scale.{round_same}
use Rattle.floats.specs.Fractions.{Is, of-value, product-rounded, sum-rounded}

-- x is the whole number n with the sign s
abbrev pub Whole : Float → Bool → ℕ → Type 0
Whole x s n = Is x s n 1

-- a number's sign
abbrev pub negative : ℤ → Bool
negative (pos n) = false
negative (negsuc n) = true

module _ (f : Format) where
  pub rounded-whole : (s : Bool) (n : ℕ) → n ≤ 2 ^ prec f → Whole (round f s n 1) s n
  rounded-whole s n h = of-value (round f s n 1) s n 1 (round_whole f s n h)

  pub whole_of : (z : ℤ) → nat_abs z ≤ 2 ^ prec f → Whole (of_int f z) (negative z) (nat_abs z)
  unfolding of_int
  whole_of (pos n) h = rounded-whole false n h
  whole_of (negsuc n) h = rounded-whole true (suc n) h

  module _ {x : Float} {s : Bool} {a : ℕ} (p : Whole x s a) {y : Float} {t : Bool} {b : ℕ} (q : Whole y t b) where
    pub whole-product : a * b ≤ 2 ^ prec f → Whole (mul f x y) (unlike s t) (a * b)
    whole-product h = rw (product-rounded f p (lit< tt) q (lit< tt)) (rounded-whole (unlike s t) (a * b) h)

    pub whole_sum : s ≡ t → a + b ≤ 2 ^ prec f → Whole (add f x y) s (a + b)
    whole_sum e h =
        let n : a * 1 + b * 1 ≡ a + b = omega arith in
        rw (sum-rounded f p (lit< tt) q (lit< tt) e ∙ ap (λ n. round f s n 1) n) (rounded-whole s (a + b) h)

-- 0 times a fraction
pub nothing-times : (f : Format) {x y : Float} {s t : Bool} {b d : ℕ} → Whole x s 0 → Is y t b d → 0 < d → Whole (mul f x y) (unlike s t) 0
nothing-times f {s = s} {t} {b} {d} p q h =
    rw (product-rounded f p (lit< tt) q h ∙ round_same f (unlike s t) (0 * b) (1 * d) 0 1 (mul-pos {m = 1} (lit< tt) h) (lit< tt) (omega arith))
    (rounded-whole f (unlike s t) 0 (omega arith))

-- ---- equality

pub same_whole : {x : Float} {a : ℕ} → Whole x false a → {y : Float} {b : ℕ} → Whole y false b → eq x y ≡ true → a ≡ b
unfolding eq
same_whole {x} {a} p {y} {b} q h =
    let d = down p.exponent in
    let e = down q.exponent in
    let m = p.digits * up p.exponent * e in
    let n = q.digits * up q.exponent * d in
    let l : m ≡ n = eqb→eq m n (first (eqb m n) _ (sym (ap₂ eq p.is q.is) ∙ h)) in
    eq_of_mul-eq-mul_right (d * e) (mul-pos (down_pos p.exponent) (down_pos q.exponent)) a b (omega (arith, l, ap (λ z. z * e) p.value, ap (λ z. z * d) q.value))
  where
    first : (a b : Bool) → a && b ≡ true → T a
    first true b e = tt
    first false b e = absurd (false≢true e)

-- ---- how many digits, and the bits

pub size-gt : (n j : ℕ) → 2 ^ j ≤ n → j < size n
size-gt n j h = lt_of_not-le (λ g. not-le_of_lt (lt_of_lt_of_le (size-lt n) (pow_mono g)) h)

module _ (f : Format) {x : Float} {n : ℕ} (p : Whole x false n) (above : 2 ^ (prec f - 1) ≤ n) (below : n < 2 ^ prec f) where
  -- the smallest values that x counts
  count : p.digits * up p.exponent * 2 ^ low f / down p.exponent ≡ n * 2 ^ low f
  count =
      ap (λ z. z / down p.exponent) (omega (arith, ap (λ z. z * 2 ^ low f) p.value))
      ∙ mul-div_cancel (n * 2 ^ low f) (down_pos p.exponent)

  dropped : size (n * 2 ^ low f) - prec f ≡ low f
  dropped =
      let l = size-le (n * 2 ^ low f) (prec f + low f) (rw (pow-add 2 (prec f) (low f)) (mul-lt-mul_of_pos_right below (pow_pos (low f)))) in
      let g = size-gt (n * 2 ^ low f) (prec f - 1 + low f) (rw (pow-add 2 (prec f - 1) (low f)) (mul-le-mul_right (2 ^ low f) above)) in
      omega (arith, l, g, two f)

  pub whole-bits : to_bits f x ≡ low f * hid f + n
  unfolding to_bits
  whole-bits =
      ap (to_bits f) p.is ∙ ap (λ m. 0 + (size m - prec f) * hid f + m / 2 ^ (size m - prec f)) count
      ∙ ap (λ k. 0 + k * hid f + n * 2 ^ low f / 2 ^ k) dropped
      ∙ ap (λ m. 0 + low f * hid f + m) (mul-div_cancel n (pow_pos (low f))) ∙ omega arith
