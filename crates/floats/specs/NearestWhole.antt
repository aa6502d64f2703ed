-- A whole number between 2^(prec − 1) and 2^prec, and a float of a smaller magnitude: their sum is rounded to a whole number, the one nearest to it.
use Rattle.algebra.specs.Prelude.{refl, ap, ap₂, subst, ◌∙◌, Bool, true, false, cond, ℕ, suc, arith, lit<}
use Rattle.std.proofs.Common.{div-mul-le_self, div-add-mod', mod-lt, mul-pos, mul-one, mul_comm, lt_of_le_of_lt, lt_of_mul-lt-mul_right, mul-lt-mul_of_pos_right, mul-le-mul_right, le-div_iff_mul-le, div-lt_iff_lt-mul, pow-add, pow_pos}
use Rattle.std.proofs.Math.Nat.{mul-sub, eq_of_mul-eq-mul_right}
use Rattle.std.proofs.Math.Pow.{pow-lt}
use Rattle.std.specs.Prelude.{Float, ◌≡◌, ◌+◌, ◌-◌, ◌*◌, ◌/◌, ◌^◌, ◌≤◌, ◌<◌}
use Rattle.std.specs.Float.{Format, binary32, binary64}
use Rattle.std.specs.Float.Ieee.{prec, emax, low, size, units, round, add}
use Rattle.std.specs.Float.Ieee.Digits.{size-le}
use Rattle.std.specs.Float.Ieee.Fits.{round_is, two}
use Rattle.std.specs.Float.Ieee.Exact.{units_val}
use Rattle.std.specs.Float.Ieee.Nearest.{closest, closest_same}
use Rattle.floats.specs.Fractions.{Is, of-value, sum-rounded, difference-rounded}
use Rattle.floats.specs.RelativeError.{closest-within}
use Rattle.floats.specs.Wholes.{Whole, size-gt}

-- a/c is closer to k than a half: no other whole number is as near
pub record Closer (k a c : ℕ) : Type 0 where
  pub over : 2 * (k * c) < 2 * a + c
  pub under : 2 * a < 2 * (k * c) + c

-- a/c is above N/D, and below the half that is next above it: closest to what N/D is, to nearest, halves upward
pub upward-closer : (N D a c : ℕ) → 0 < D → N * c < a * D → 2 * (a * D) < ((2 * N + D) / (2 * D) * (2 * D) + D) * c → Closer ((2 * N + D) / (2 * D)) a c
upward-closer N D a c h above below =
    let lower : (2 * N + D) / (2 * D) * (2 * D) ≤ 2 * N + D = div-mul-le_self (2 * N + D) (2 * D) in
    record {
      over = lt_of_mul-lt-mul_right D (omega (arith, mul-le-mul_right c lower, above));
      under = lt_of_mul-lt-mul_right D (omega (arith, below));
    }

-- the half that is next above N/D, from below
pub half_above : (N D : ℕ) → 0 < D → 2 * N < (2 * N + D) / (2 * D) * (2 * D) + D
half_above N D h = omega (arith, div-add-mod' (2 * N + D) (2 * D), mod-lt (2 * N + D) {m = 2 * D} (omega arith))

-- k is N/D to nearest, halves upward: a fraction above N/D is rounded to no less, and one below it to no more
module _ (N D k : ℕ) (lower : k * (2 * D) ≤ 2 * N + D) (upper : 2 * N < k * (2 * D) + D) where
  pub no_less : (a c m n : ℕ) → N * c < a * D → 2 * (m * c) + 2 * a ≤ 2 * (n * c) + c → m + k ≤ n
  no_less a c m n above sum =
      let l : m + k < n + 1 = lt_of_mul-lt-mul_right (c * D) (omega (arith, mul-le-mul_right c lower, mul-le-mul_right D sum, above)) in
      omega arith

  pub no_more : (a c m n : ℕ) → a * D < N * c → 2 * (n * c) ≤ 2 * (m * c) + 2 * a + c → n ≤ m + k
  no_more a c m n below sum =
      let l : n < m + k + 1 = lt_of_mul-lt-mul_right (c * D) (omega (arith, mul-le-mul_right c upper, mul-le-mul_right D sum, below)) in
      omega arith

only-closest : (k a c : ℕ) → 0 < c → Closer k a c → closest a c ≡ k
only-closest k a c C h =
    let n = closest a c in
    let w = closest-within a c C in
    let l : n < k + 1 = lt_of_mul-lt-mul_right c (omega (arith, w.over, h.under)) in
    let m : k < n + 1 = lt_of_mul-lt-mul_right c (omega (arith, w.under, h.over)) in
    omega arith

-- ---- from 2^(prec − 1) to 2^prec the unit is 1

module _ (f : Format) (s : Bool) (a c : ℕ) (C : 0 < c) (above : 2 ^ (prec f - 1) * c ≤ a) (below : a < 2 ^ prec f * c) where
  whole-digits : size (a * 2 ^ low f / c) - prec f ≡ low f
  whole-digits =
      let l = size-le (a * 2 ^ low f / c) (prec f + low f) ((div-lt_iff_lt-mul C).1 (omega (arith, ap (λ z. z * c) (pow-add 2 (prec f) (low f)), mul-lt-mul_of_pos_right below (pow_pos (low f))))) in
      let g = size-gt (a * 2 ^ low f / c) (prec f - 1 + low f) ((le-div_iff_mul-le C).1 (omega (arith, ap (λ z. z * c) (pow-add 2 (prec f - 1) (low f)), mul-le-mul_right (2 ^ low f) above))) in
      omega (arith, l, g, two f)

  round-units : round f s a c ≡ units f s (closest a c) (low f)
  round-units =
      round_is f s a c ∙ ap (λ k. units f s (closest (a * 2 ^ low f) (c * 2 ^ k)) k) whole-digits
      ∙ ap (λ q. units f s q (low f)) (closest_same (a * 2 ^ low f) (c * 2 ^ low f) a c (mul-pos C (pow_pos (low f))) C (omega arith))

  closest-most : closest a c ≤ 2 ^ prec f
  closest-most =
      let w = closest-within a c C in
      let l : 2 * closest a c < 2 * 2 ^ prec f + 1 = lt_of_mul-lt-mul_right c (omega (arith, w.over, below)) in
      omega arith

  pub round-closest : Whole (round f s a c) s (closest a c)
  round-closest =
      let v = of-value (units f s (closest a c) (low f)) s _ _ (units_val f s (closest a c) (low f) fine) in
      record {
        digits = v.digits;
        exponent = v.exponent;
        is = round-units ∙ v.is;
        value = eq_of_mul-eq-mul_right (2 ^ low f) (pow_pos (low f)) _ _ (omega (arith, v.value));
      }
    where
      room : (f : Format) → prec f + low f < low f + suc (emax f)
      room binary32 = lit< tt
      room binary64 = lit< tt

      fine : closest a c * 2 ^ low f < 2 ^ (low f + suc (emax f))
      fine = lt_of_le_of_lt (rw (pow-add 2 (prec f) (low f)) (mul-le-mul_right (2 ^ low f) closest-most)) (pow-lt (room f))

-- ---- the sum

-- x is a/c with the sign s, and m the whole number y: none of what lies between m − a/c and m + a/c has less digits or more
module _ (f : Format) {y : Float} {m : ℕ} (q : Whole y false m) {a c : ℕ} (C : 0 < c) (above : 2 ^ (prec f - 1) * c + a ≤ m * c) (below : m * c + a < 2 ^ prec f * c) where
  pub sum-closest : (s : Bool) {x : Float} → Is x s a c → Whole (add f x y) false (closest (cond s (m * c - a) (m * c + a)) c)
  sum-closest false p =
      let n : a * 1 + m * c ≡ m * c + a = omega arith in
      rw (sum-rounded f p C q (lit< tt) refl ∙ ap₂ (round f false) n (mul-one c)) (round-closest f false (m * c + a) c C (omega arith) below)
  sum-closest true p =
      let pow : 0 < 2 ^ (prec f - 1) * c = mul-pos (pow_pos (prec f - 1)) C in
      rw (difference-rounded f p C q (lit< tt) refl (m * c - a) (omega arith) (omega arith) ∙ ap (round f false (m * c - a)) (mul-one c))
      (round-closest f false (m * c - a) c C (omega arith) (omega arith))

  module _ {k : ℕ} (h : Closer k a c) where
    is-closest : (s : Bool) → closest (cond s (m * c - a) (m * c + a)) c ≡ cond s (m - k) (m + k)
    is-closest false = only-closest (m + k) (m * c + a) c C (record { over = omega (arith, h.over); under = omega (arith, h.under) })
    is-closest true =
        let less : k < m + 1 = lt_of_mul-lt-mul_right c (omega (arith, h.over)) in
        only-closest (m - k) (m * c - a) c C (record { over = omega (arith, h.under, distributed); under = omega (arith, h.over, distributed) })
      where
        distributed : (m - k) * c ≡ m * c - k * c
        distributed = mul_comm (m - k) c ∙ mul-sub c m k ∙ ap₂ ◌-◌ (mul_comm c m) (mul_comm c k)

    pub sum-nearest : (s : Bool) {x : Float} → Is x s a c → Whole (add f x y) false (cond s (m - k) (m + k))
    sum-nearest s {x} p = subst (λ n. Whole (add f x y) false n) (is-closest s) (sum-closest s p)
