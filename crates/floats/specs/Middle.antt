-- The whole number nearest to a float of less than 2^51, from its sum with 1.5·2^52: as a float, by a difference, and as a whole number, by the sum's bits.
use Rattle.algebra.specs.Prelude.{refl, sym, ap, subst, ◌∙◌, Bool, true, false, not, cond, ℕ, arith, T, lit<, ℤ, pos, nat_abs, neg_ℤ}
use Rattle.std.proofs.Common.{div-lt_iff_lt-mul, div-mul-le_self, mul-le-mul_right, lt_of_mul-lt-mul_right}
use Rattle.std.specs.Prelude.{Float, ◌≡◌, ◌+◌, ◌-◌, ◌*◌, ◌/◌, ◌^◌, ◌≤◌, ◌<◌, ◌-ℤ◌}
use Rattle.std.specs.Float.{fin, binary64}
use Rattle.std.specs.Float.Ieee.{add, sub, eq, of_int, to_bits, is_nan}
use Rattle.std.specs.Float.Ieee.Nearest.{closest}
use Rattle.algebra.specs.Order.{abs_neg}
use Rattle.algebra.specs.Diff.{pos-as, neg-as, sub-eq}
use Rattle.floats.specs.Fractions.{Is}
use Rattle.floats.specs.Wholes.{Whole, same_whole, whole-bits}
use Rattle.floats.specs.NearestWhole.{Closer, half_above, no_less, no_more, sum-closest, sum-nearest}
use Rattle.floats.specs.RelativeError.{WithinHalf, closest-within}
use Rattle.floats.specs.Kernels.{difference-of}

-- 1.5·2^52, and its bits
unfoldable pub middle : Float
middle = fin false 3 (pos 51)

abbrev pub middle_bits : ℕ
middle_bits = 4843621399236968448

middle-is : Whole middle false (3 * 2 ^ 51)
unfolding middle
middle-is = record { digits = 3; exponent = pos 51; is = refl; value = refl }

-- a sum's digits
abbrev pub digits : Bool → ℕ → ℕ
digits s k = cond s (3 * 2 ^ 51 - k) (3 * 2 ^ 51 + k)

-- the sum with x counts z, of less than 2^51 in magnitude, from 1.5·2^52 on
pub record Counts (x : Float) (z : ℤ) : Type 0 where
  pub sign : Bool
  pub count : ℕ
  pub small : count < 2 ^ 51
  pub sum : Whole (add binary64 x middle) false (digits sign count)
  pub value : cond sign (neg_ℤ (pos count)) (pos count) ≡ z

-- z is closer to x than a half, and less than 2^51 in magnitude
pub record NearestTo (x : Float) (z : ℤ) : Type 0 where
  pub sign : Bool
  pub num : ℕ
  pub den : ℕ
  pub count : ℕ
  pub above : 0 < den
  pub is : Is x sign num den
  pub close : Closer count num den
  pub small : count < 2 ^ 51
  pub value : cond sign (neg_ℤ (pos count)) (pos count) ≡ z

pub quotient-small : (n D : ℕ) → n < 2 ^ 50 * D → (2 * n + D) / (2 * D) < 2 ^ 51
quotient-small n D h = (div-lt_iff_lt-mul {k = 2 * D} {x = 2 * n + D} {y = 2 ^ 51} (omega arith)).1 (omega arith)

digits_low : (s : Bool) (k : ℕ) → k < 2 ^ 51 → 2 ^ 52 ≤ digits s k
digits_low true k h = omega arith
digits_low false k h = omega arith

digits-high : (s : Bool) (k : ℕ) → k < 2 ^ 51 → digits s k < 2 ^ 53
digits-high true k h = omega arith
digits-high false k h = omega arith

less-middle : (s : Bool) (k : ℕ) → k < 2 ^ 51 → pos (digits s k) -ℤ pos (3 * 2 ^ 51) ≡ cond s (neg_ℤ (pos k)) (pos k)
less-middle true k h = sym (neg-as k (3 * 2 ^ 51 - k) (3 * 2 ^ 51) (omega arith))
less-middle false k h = sym (pos-as k (3 * 2 ^ 51 + k) (3 * 2 ^ 51) (omega arith))

-- the bits count the digits
less-bits : (m : ℕ) → pos (1074 * 2 ^ 52 + m) -ℤ pos middle_bits ≡ pos m -ℤ pos (3 * 2 ^ 51)
less-bits m = sub-eq (1074 * 2 ^ 52 + m) middle_bits m (3 * 2 ^ 51) (omega arith)

-- the sum, less 1.5·2^52 again
less-again : (x : Float) (s : Bool) (k : ℕ) → k < 2 ^ 51 → Whole (add binary64 x middle) false (digits s k) → sub binary64 (add binary64 x middle) middle ≡ of_int binary64 (cond s (neg_ℤ (pos k)) (pos k))
less-again x s k h w = difference-of binary64 (pos (digits s k)) (pos (3 * 2 ^ 51)) w middle-is ∙ ap (of_int binary64) (less-middle s k h)

pub nearest-counts : {x : Float} {z : ℤ} → NearestTo x z → Counts x z
nearest-counts {x} {z} n =
    let c = n.den in
    let k = n.count in
    let l : k * c + c ≤ 2 ^ 51 * c = omega (arith, mul-le-mul_right {m = k + 1} {n = 2 ^ 51} c (omega (arith, n.small))) in
    let h = n.close in
    record {
      sign = n.sign;
      count = k;
      small = n.small;
      sum = sum-nearest binary64 middle-is n.above (omega (arith, l, h.under)) (omega (arith, l, h.under)) h n.sign n.is;
      value = n.value;
    }

pub nearest-nothing : {x : Float} → Whole x false 0 → Counts x (pos 0)
nearest-nothing w =
    nearest-counts (record { sign = false; num = 0; den = 1; count = 0; above = lit< tt; is = w; close = record { over = lit< tt; under = lit< tt }; small = lit< tt; value = refl })

signed-most : (s : Bool) (k : ℕ) → k < 2 ^ 51 → nat_abs (cond s (neg_ℤ (pos k)) (pos k)) ≤ 2 ^ 51
signed-most true k h = rw (abs_neg (pos k)) (omega (arith, h))
signed-most false k h = omega (arith, h)

module _ {x : Float} {z : ℤ} (n : Counts x z) where
  pub counts-most : nat_abs z ≤ 2 ^ 51
  counts-most = subst (λ z. nat_abs z ≤ 2 ^ 51) n.value (signed-most n.sign n.count n.small)

  -- as a float
  pub nearest-again : sub binary64 (add binary64 x middle) middle ≡ of_int binary64 z
  nearest-again = less-again x n.sign n.count n.small n.sum ∙ ap (of_int binary64) n.value

  -- by bits
  sum-bits : to_bits binary64 (add binary64 x middle) ≡ 1074 * 2 ^ 52 + digits n.sign n.count
  sum-bits = whole-bits binary64 n.sum (digits_low n.sign n.count n.small) (digits-high n.sign n.count n.small)

  pub nearest-bits : pos (to_bits binary64 (add binary64 x middle)) -ℤ pos middle_bits ≡ z
  nearest-bits = ap (λ b. pos b -ℤ pos middle_bits) sum-bits ∙ less-bits (digits n.sign n.count) ∙ less-middle n.sign n.count n.small ∙ n.value

  pub bits_below : to_bits binary64 (add binary64 x middle) < 2 ^ 63
  bits_below = omega (arith, sum-bits, digits-high n.sign n.count n.small)

  pub sum_number : T (not (is_nan (add binary64 x middle)))
  unfolding is_nan
  sum_number = subst (λ y. T (not (is_nan y))) (sym n.sum.is) tt

-- ---- any float of less than 2^50: it is rounded to a whole number within a half

pub record Within (x : Float) (s : Bool) (a c : ℕ) : Type 0 where
  pub count : ℕ
  pub counts : Counts x (cond s (neg_ℤ (pos count)) (pos count))
  pub near : WithinHalf count a c

within-small : (k a c : ℕ) → a < 2 ^ 50 * c → WithinHalf k a c → k < 2 ^ 51
within-small k a c h w = lt_of_mul-lt-mul_right c (omega (arith, w.over))

pub within-counts : (s : Bool) {x : Float} {a c : ℕ} → Is x s a c → 0 < c → a < 2 ^ 50 * c → Within x s a c
within-counts false {x} {a} {c} p C h =
    let n = closest (3 * 2 ^ 51 * c + a) c in
    let w = closest-within (3 * 2 ^ 51 * c + a) c C in
    let l : 3 * 2 ^ 51 < n + 1 = lt_of_mul-lt-mul_right c (omega (arith, w.under)) in
    let e : n ≡ 3 * 2 ^ 51 + (n - 3 * 2 ^ 51) = omega (arith, l) in
    let f = ap (λ z. z * c) e in
    let near : WithinHalf (n - 3 * 2 ^ 51) a c = record { over = omega (arith, w.over, f); under = omega (arith, w.under, f) } in
    record {
      count = n - 3 * 2 ^ 51;
      counts = record {
        sign = false;
        count = n - 3 * 2 ^ 51;
        small = within-small (n - 3 * 2 ^ 51) a c h near;
        sum = subst (λ n. Whole (add binary64 x middle) false n) e (sum-closest binary64 middle-is C (omega arith) (omega arith) false p);
        value = refl;
      };
      near = near;
    }
within-counts true {x} {a} {c} p C h =
    let n = closest (3 * 2 ^ 51 * c - a) c in
    let w = closest-within (3 * 2 ^ 51 * c - a) c C in
    let l : n < 3 * 2 ^ 51 + 1 = lt_of_mul-lt-mul_right c (omega (arith, w.over)) in
    let e : 3 * 2 ^ 51 ≡ n + (3 * 2 ^ 51 - n) = omega (arith, l) in
    let m : n ≡ 3 * 2 ^ 51 - (3 * 2 ^ 51 - n) = omega (arith, l) in
    let f = ap (λ z. z * c) e in
    let near : WithinHalf (3 * 2 ^ 51 - n) a c = record { over = omega (arith, w.under, f); under = omega (arith, w.over, f) } in
    record {
      count = 3 * 2 ^ 51 - n;
      counts = record {
        sign = true;
        count = 3 * 2 ^ 51 - n;
        small = within-small (3 * 2 ^ 51 - n) a c h near;
        sum = subst (λ n. Whole (add binary64 x middle) false n) m (sum-closest binary64 middle-is C (omega arith) (omega arith) true p);
        value = refl;
      };
      near = near;
    }

-- ---- a fraction between two floats of one sign, whose sums with 1.5·2^52 are equal

module _ {N D : ℕ} (D-above : 0 < D) (small : N < 2 ^ 50 * D) {a c : ℕ} (C : 0 < c) (most : a < 2 ^ 51 * c) (above : N * c < a * D) {a' c' : ℕ} (C' : 0 < c') (most' : a' < 2 ^ 51 * c') (below : a' * D < N * c') where
  abbrev k : ℕ
  k = (2 * N + D) / (2 * D)

  -- what both are rounded to
  between : (s : Bool) → closest (cond s (3 * 2 ^ 51 * c - a) (3 * 2 ^ 51 * c + a)) c ≡ closest (cond s (3 * 2 ^ 51 * c' - a') (3 * 2 ^ 51 * c' + a')) c' → closest (cond s (3 * 2 ^ 51 * c - a) (3 * 2 ^ 51 * c + a)) c ≡ digits s k
  between false e =
      let w = closest-within (3 * 2 ^ 51 * c + a) c C in
      let w' = closest-within (3 * 2 ^ 51 * c' + a') c' C' in
      let l = no_less N D k (div-mul-le_self (2 * N + D) (2 * D)) (half_above N D D-above) a c (3 * 2 ^ 51) (closest (3 * 2 ^ 51 * c + a) c) above (omega (arith, w.under)) in
      let m = no_more N D k (div-mul-le_self (2 * N + D) (2 * D)) (half_above N D D-above) a' c' (3 * 2 ^ 51) (closest (3 * 2 ^ 51 * c' + a') c') below (omega (arith, w'.over)) in
      omega (arith, e, l, m)
  between true e =
      let w = closest-within (3 * 2 ^ 51 * c - a) c C in
      let w' = closest-within (3 * 2 ^ 51 * c' - a') c' C' in
      let l = no_less N D k (div-mul-le_self (2 * N + D) (2 * D)) (half_above N D D-above) a c (closest (3 * 2 ^ 51 * c - a) c) (3 * 2 ^ 51) above (omega (arith, w.over)) in
      let m = no_more N D k (div-mul-le_self (2 * N + D) (2 * D)) (half_above N D D-above) a' c' (closest (3 * 2 ^ 51 * c' - a') c') (3 * 2 ^ 51) below (omega (arith, w'.under)) in
      omega (arith, e, l, m)

  pub between-again : (s : Bool) {x y : Float} → Is x s a c → Is y s a' c' → eq (add binary64 x middle) (add binary64 y middle) ≡ true → sub binary64 (add binary64 x middle) middle ≡ of_int binary64 (cond s (neg_ℤ (pos k)) (pos k))
  between-again s {x} {y} p q e =
      let w = sum-closest binary64 middle-is C (omega arith) (omega arith) s p in
      let w' = sum-closest binary64 middle-is C' (omega arith) (omega arith) s q in
      less-again x s k (quotient-small N D small) (subst (λ n. Whole (add binary64 x middle) false n) (between s (same_whole w w' e)) w)
