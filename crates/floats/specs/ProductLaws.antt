-- A whole number B below 5·2^49 divided by 2^k, to nearest, halves away from zero, by one product: B·2^−k·(1 + 2^−52), rounded, lies above B/2^k by less than 2^−k,
-- and what is below a half is so by 2^−k at least.
use Rattle.algebra.specs.Prelude.{refl, sym, ap, subst, ◌∙◌, Bool, false, not, cond, ℕ, zero, suc, arith, T, lit<, lit≤, ℤ, pos, negsuc, nat_abs, neg_ℤ}
use Rattle.std.proofs.Common.{le_trans, lt_of_le_of_lt, mul-pos, mul-le-mul, one-mul, mul-le-mul_right, mul-lt-mul_of_pos_right, pow-add, pow_mono}
use Rattle.std.proofs.Math.Nat.{div-eq_of_lt, lt_of_mul-lt-mul_left}
use Rattle.std.proofs.Math.Pow.{pow_pos}
use Rattle.std.specs.Prelude.{Float, ◌≡◌, ◌+◌, ◌-◌, ◌*◌, ◌/◌, ◌^◌, ◌≤◌, ◌<◌, ◌-ℤ◌}
use Rattle.std.specs.Float.{fin}
use Rattle.std.specs.Float.Ieee.{binary64, round, add, sub, mul, of_int, to_bits, is_nan, unlike}
use Rattle.algebra.specs.Nearest.{away}
use Rattle.floats.specs.Fractions.{Is, product-rounded}
use Rattle.floats.specs.Wholes.{Whole, whole_of, nothing-times}
use Rattle.floats.specs.RelativeError.{Rounded, rounded}
use Rattle.floats.specs.NearestWhole.{Closer, upward-closer, half_above}
use Rattle.floats.specs.Ranges.{Between, whole-between, wider, product-between, part-over, part-under}
use Rattle.floats.specs.Middle.{middle, middle_bits, NearestTo, Counts, quotient-small, nearest-nothing, nearest-counts, nearest-again, nearest-bits, bits_below, sum_number}
use Rattle.floats.specs.QuotientLaws.{above-it}

-- 2^−k·(1 + 2^−52)
unfoldable pub fraction : ℕ → Float
fraction k = fin false (2 ^ 52 + 1) (negsuc (k + 51))

pub fraction-is : (k : ℕ) → Is (fraction k) false (2 ^ 52 + 1) (2 ^ (k + 52))
unfolding fraction
fraction-is k =
    let n : k + 52 ≡ suc (k + 51) = omega arith in
    record { digits = 2 ^ 52 + 1; exponent = negsuc (k + 51); is = refl; value = ap (λ n. (2 ^ 52 + 1) * 2 ^ n) n }

-- an even divisor
closer : (B E x e : ℕ) → 0 < E → B * e < x * (2 * E) → x * (2 * E) < B * e + e → Closer ((2 * B + 2 * E) / (2 * (2 * E))) x e
closer B E x e h above below =
    let u : 2 * B < (2 * B + 2 * E) / (2 * (2 * E)) * (2 * (2 * E)) + 2 * E = half_above B (2 * E) (omega arith) in
    let upper : 2 * B + 2 ≤ (2 * B + 2 * E) / (2 * (2 * E)) * (2 * (2 * E)) + 2 * E = omega (arith, u) in
    upward-closer B (2 * E) x e (omega arith) above (omega (arith, mul-le-mul_right e upper, below))

-- x·2^k is below B·e + e
below-it : (A J B x e : ℕ) → B * J < A → 0 < e → A * x ≤ (A + J) * (B * e) → x < B * e + e
below-it A J B x e h k l = lt_of_mul-lt-mul_left A (omega (arith, l, mul-lt-mul_of_pos_right h k))

-- the product, for any whole number that a double counts
module _ {B k : ℕ} {y : Float} {s : Bool} (p : Whole y s B) (above : 0 < B) (most : B ≤ 2 ^ 53) (k_above : 1 < k) (k_most : k ≤ 900) where
  fraction-between : Between (k + 52) (2 ^ 52 + 1) (2 ^ (k + 52))
  fraction-between =
      let l : 2 ^ 53 ≤ 2 ^ (k + 52) = pow_mono {i = 53} {j = k + 52} (omega arith) in
      record { low = omega arith; high = le_trans (lit≤ {m = 2 ^ 52 + 1} {n = 2 ^ 53 * 1} tt) (mul-le-mul l (pow_pos (k + 52))) }

  pub product : Rounded binary64 (mul binary64 y (fraction k)) (unlike s false) (B * (2 ^ 52 + 1)) (2 ^ (k + 52))
  product =
      let w = subst (λ n. Between 1022 (B * (2 ^ 52 + 1)) n) (one-mul (2 ^ (k + 52))) (wider {j = 1022} (omega arith) (product-between (whole-between 53 B above most) fraction-between)) in
      rw (product-rounded binary64 p (lit< tt) (fraction-is k) (pow_pos (k + 52)) ∙ ap (round binary64 (unlike s false) (B * (2 ^ 52 + 1))) (one-mul (2 ^ (k + 52))))
      (rounded binary64 (unlike s false) (B * (2 ^ 52 + 1)) (2 ^ (k + 52)) (pow_pos (k + 52)) w.low w.high)

  pub product-over : 2 ^ 105 * (product.num * 2 ^ k) ≤ (2 ^ 105 + (2 ^ 53 + 2 ^ 52 + 1)) * (B * product.den)
  product-over =
      let x = product.num in
      let d = product.den in
      let o = subst (λ n. 2 ^ 53 * (x * n) ≤ (2 ^ 53 + 1) * (B * (2 ^ 52 + 1) * d)) (pow-add 2 k 52) (part-over product.near).most in
      upper (2 ^ 53) (2 ^ 53 + 1) (2 ^ 52 + 1) (2 ^ 52) x d (2 ^ k) o
    where
      upper : (A C m n x e D : ℕ) → A * (x * (D * n)) ≤ C * (B * m * e) → A * n * (x * D) ≤ C * m * (B * e)
      upper A C m n x e D h = omega (arith, h)

  pub product-under : B * product.den < product.num * 2 ^ k
  product-under =
      let x = product.num in
      let d = product.den in
      let u = subst (λ n. (2 ^ 53 - 1) * (B * (2 ^ 52 + 1) * d) ≤ 2 ^ 53 * (x * n)) (pow-add 2 k 52) (part-under product.near).most in
      above-it ((2 ^ 53 - 1) * (2 ^ 52 + 1)) (2 ^ 53 * 2 ^ 52) (B * d) (x * 2 ^ k) (lit< tt) (mul-pos above product.above) (lower (2 ^ 53 - 1) (2 ^ 53) (2 ^ 52 + 1) (2 ^ 52) x d (2 ^ k) u)
    where
      lower : (A C m n x e D : ℕ) → A * (B * m * e) ≤ C * (x * (D * n)) → A * m * (B * e) ≤ C * n * (x * D)
      lower A C m n x e D h = omega (arith, h)

-- and where it is small enough to be rounded aright
module _ {B k : ℕ} {y : Float} {s : Bool} (p : Whole y s B) (above : 0 < B) (below : B < 5 * 2 ^ 49) (k_above : 1 < k) (k_most : k ≤ 900) where
  most : B ≤ 2 ^ 53
  most = omega (arith, below)

  abbrev part : Rounded binary64 (mul binary64 y (fraction k)) (unlike s false) (B * (2 ^ 52 + 1)) (2 ^ (k + 52))
  part = product p above most k_above k_most

  part-closer : Closer ((2 * B + 2 ^ k) / (2 * 2 ^ k)) part.num part.den
  part-closer =
      let e : 2 * 2 ^ (k - 1) ≡ 2 ^ k = sym (pow-add 2 1 (k - 1)) ∙ ap (λ n. 2 ^ n) (back k (omega arith)) in
      let x = part.num in
      let d = part.den in
      let m : B * (2 ^ 53 + 2 ^ 52 + 1) < 2 ^ 105 = lt_of_le_of_lt (mul-le-mul_right {m = B} {n = 5 * 2 ^ 49} (2 ^ 53 + 2 ^ 52 + 1) (omega arith)) (lit< tt) in
      let over = below-it (2 ^ 105) (2 ^ 53 + 2 ^ 52 + 1) B (x * 2 ^ k) d m part.above (product-over p above most k_above k_most) in
      let under = product-under p above most k_above k_most in
      subst (λ D. Closer ((2 * B + D) / (2 * D)) x d) e (closer B (2 ^ (k - 1)) x d (pow_pos (k - 1)) (rw e under) (rw e over))
    where
      back : (k : ℕ) → 0 < k → 1 + (k - 1) ≡ k
      back k h = omega arith

  whole-nearest : NearestTo (mul binary64 y (fraction k)) (cond (unlike s false) (neg_ℤ (pos ((2 * B + 2 ^ k) / (2 * 2 ^ k)))) (pos ((2 * B + 2 ^ k) / (2 * 2 ^ k))))
  whole-nearest =
      record {
        sign = unlike s false;
        num = part.num;
        den = part.den;
        count = (2 * B + 2 ^ k) / (2 * 2 ^ k);
        above = part.above;
        is = part.is;
        close = part-closer;
        small = quotient-small B (2 ^ k) (omega (arith, below, pow_mono {i = 2} {j = k} k_above));
        value = refl;
      }

-- ---- the sum with 1.5·2^52

-- a whole number of less than 5·2^49 over 2^k, to nearest, halves away from zero
module _ (z : ℤ) (k : ℕ) (below : nat_abs z < 5 * 2 ^ 49) (k_above : 1 < k) (k_most : k ≤ 900) where
  product-counts : Counts (mul binary64 (of_int binary64 z) (fraction k)) (away z (2 ^ k))
  unfolding away
  product-counts = go z below
    where
      go : (z : ℤ) → nat_abs z < 5 * 2 ^ 49 → Counts (mul binary64 (of_int binary64 z) (fraction k)) (away z (2 ^ k))
      go (pos zero) h =
          let e : pos 0 ≡ away (pos 0) (2 ^ k) = ap pos (sym (div-eq_of_lt {n = 0 + 2 ^ k} {m = 2 * 2 ^ k} (omega (arith, pow_pos k)))) in
          subst (Counts (mul binary64 (of_int binary64 (pos 0)) (fraction k))) e
          (nearest-nothing (nothing-times binary64 (whole_of binary64 (pos 0) (lit≤ tt)) (fraction-is k) (pow_pos (k + 52))))
      go (pos (suc n)) h = nearest-counts (whole-nearest (whole_of binary64 (pos (suc n)) (omega arith)) (omega arith) h k_above k_most)
      go (negsuc n) h = nearest-counts (whole-nearest (whole_of binary64 (negsuc n) (omega arith)) (omega arith) h k_above k_most)

  -- as a float
  pub product-away : sub binary64 (add binary64 (mul binary64 (of_int binary64 z) (fraction k)) middle) middle ≡ of_int binary64 (away z (2 ^ k))
  product-away = nearest-again product-counts

  -- by the sum's bits
  pub product-bits : pos (to_bits binary64 (add binary64 (mul binary64 (of_int binary64 z) (fraction k)) middle)) -ℤ pos middle_bits ≡ away z (2 ^ k)
  product-bits = nearest-bits product-counts

  pub product-bits-below : to_bits binary64 (add binary64 (mul binary64 (of_int binary64 z) (fraction k)) middle) < 2 ^ 63
  product-bits-below = bits_below product-counts

  pub product-number : T (not (is_nan (add binary64 (mul binary64 (of_int binary64 z) (fraction k)) middle)))
  product-number = sum_number product-counts
