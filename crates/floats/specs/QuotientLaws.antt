-- A quotient V·q/D to nearest, halves away from zero, by one division in double and one product, where they leave no doubt: with W = V·(1 + 2^−51), rounded,
-- x = q·(W/D) lies above V·q/D, and x·(1 − 2^−49) below. Where both are rounded to one whole number, V·q/D is; a half never is.
use Rattle.algebra.specs.Prelude.{refl, sym, ap, ap₂, subst, ◌∙◌, Bool, true, false, cond, ℕ, zero, suc, arith, lit<, lit≤, ℤ, pos, negsuc, nat_abs, neg_ℤ}
use Rattle.std.proofs.Common.{mul-pos, mul-one, one-mul, mul_comm, mul-le-mul_left, mul-le-mul_right, le_of_mul-le-mul_right, mul-lt-mul_of_pos_right, lt_of_lt_of_le, lt_of_le_of_lt, lt_of_mul-lt-mul_right}
use Rattle.std.proofs.Math.Nat.{lt_of_mul-lt-mul_left, div-eq_of_lt}
use Rattle.std.specs.Prelude.{Float, ◌≡◌, ◌+◌, ◌-◌, ◌*◌, ◌/◌, ◌^◌, ◌≤◌, ◌<◌, ◌*ℤ◌}
use Rattle.std.specs.Float.{fin}
use Rattle.std.specs.Float.Ieee.{binary64, round, add, sub, mul, div, eq, of_int, unlike}
use Rattle.algebra.specs.Nearest.{away}
use Rattle.algebra.specs.NearestLaws.{away-odd}
use Rattle.floats.specs.Fractions.{Is, product-rounded, quotient-rounded}
use Rattle.floats.specs.Wholes.{Whole, whole_of, nothing-times}
use Rattle.floats.specs.RelativeError.{Rounded, rounded}
use Rattle.floats.specs.Middle.{middle, nearest-nothing, nearest-again, between-again}
use Rattle.floats.specs.Ranges.{Between, whole-between, wider, product-between, quotient-between, rounded-between, Times, part-over, part-under, times-product, times-quotient, times-times}

-- 1 + 2^−51
unfoldable pub slightly_more : Float
slightly_more = fin false (2 ^ 51 + 1) (negsuc 50)

slightly-more-is : Is slightly_more false (2 ^ 51 + 1) (2 ^ 51)
unfolding slightly_more
slightly-more-is = record { digits = 2 ^ 51 + 1; exponent = negsuc 50; is = refl; value = refl }

-- 1 − 2^−49
unfoldable pub slightly_less : Float
slightly_less = fin false (2 ^ 49 - 1) (negsuc 48)

slightly-less-is : Is slightly_less false (2 ^ 49 - 1) (2 ^ 49)
unfolding slightly_less
slightly-less-is = record { digits = 2 ^ 49 - 1; exponent = negsuc 48; is = refl; value = refl }

-- ---- in fractions

-- factors that are literals
pub above-it : (A B n x : ℕ) → B < A → 0 < n → A * n ≤ B * x → n < x
above-it A B n x h k l = lt_of_mul-lt-mul_left B (lt_of_lt_of_le (mul-lt-mul_of_pos_right h k) l)

below-it : (A B n x : ℕ) → B < A → 0 < n → A * x ≤ B * n → x < n
below-it A B n x h k l = lt_of_mul-lt-mul_left A (lt_of_le_of_lt l (mul-lt-mul_of_pos_right h k))

-- at most twice N/D, which is at most M
not-large : (A B M N D x e : ℕ) → 0 < A * D → B ≤ 2 * A → N ≤ M * D → A * (x * D) ≤ B * (N * e) → x ≤ 2 * M * e
not-large A B M N D x e P h m l =
    let n : x * (A * D) ≤ 2 * M * e * (A * D) = omega (arith, l, mul-le-mul_left (B * e) m, mul-le-mul_right (M * D * e) h) in
    le_of_mul-le-mul_right n P

-- ---- in double

-- a product and a quotient in double, each within its range
double : (s : Bool) {j a c : ℕ} → 0 < c → j ≤ 1022 → Between j a c → Rounded binary64 (round binary64 s a c) s a c
double s {j} {a} {c} C h r = let w = wider h r in rounded binary64 s a c C w.low w.high

-- x and what is slightly less are rounded to one whole number
unfoldable pub certain : Float → Bool
certain x = eq (add binary64 x middle) (add binary64 (mul binary64 x slightly_less) middle)

same_sign : (s : Bool) → unlike (unlike s false) false ≡ unlike s false
same_sign true = refl
same_sign false = refl

module _ {v d : ℕ} {y z : Float} (p : Whole y false v) (r : Whole z false d) (v_above : 0 < v) (v_most : v ≤ 2 ^ 53) (d-above : 0 < d) (d-most : d ≤ 2 ^ 53) where
  -- W, and W/D
  weight-between : Between (53 + 1) (v * (2 ^ 51 + 1)) (2 ^ 51)
  weight-between =
      let more : Between 1 (2 ^ 51 + 1) (2 ^ 51) = record { low = lit≤ tt; high = lit≤ tt } in
      product-between (whole-between 53 v v_above v_most) more

  weight : Rounded binary64 (mul binary64 y slightly_more) false (v * (2 ^ 51 + 1)) (2 ^ 51)
  weight = rw (product-rounded binary64 p (lit< tt) slightly-more-is (lit< tt)) (double false (lit< tt) (lit≤ tt) weight-between)

  ratio-between : Between (53 + 1 + 1 + 53) weight.num (weight.den * d)
  ratio-between =
      subst (λ n. Between (53 + 1 + 1 + 53) n (weight.den * d)) (mul-one weight.num)
      (quotient-between (rounded-between (lit< tt) weight-between weight.near) (whole-between 53 d d-above d-most))

  ratio : Rounded binary64 (div binary64 (mul binary64 y slightly_more) z) false weight.num (weight.den * d)
  ratio =
      rw (quotient-rounded binary64 weight.is weight.above r (lit< tt) d-above ∙ ap (λ n. round binary64 false n (weight.den * d)) (mul-one weight.num))
      (double false (mul-pos weight.above d-above) (lit≤ tt) ratio-between)

  module _ {s : Bool} {q : ℕ} {t : Float} (u : Whole t s q) (q-above : 0 < q) (q-most : q ≤ 2 ^ 53) where
    part-between : Between (53 + (53 + 1 + 1 + 53 + 1)) (q * ratio.num) ratio.den
    part-between =
        subst (λ n. Between (53 + (53 + 1 + 1 + 53 + 1)) (q * ratio.num) n) (one-mul ratio.den)
        (product-between (whole-between 53 q q-above q-most) (rounded-between (mul-pos weight.above d-above) ratio-between ratio.near))

    part : Rounded binary64 (mul binary64 t (div binary64 (mul binary64 y slightly_more) z)) (unlike s false) (q * ratio.num) ratio.den
    part =
        rw (product-rounded binary64 u (lit< tt) ratio.is ratio.above ∙ ap (round binary64 (unlike s false) (q * ratio.num)) (one-mul ratio.den))
        (double (unlike s false) ratio.above (lit≤ tt) part-between)

    -- the three together: at most 7 parts in 2^54 too much, or too little
    over : Times (2 ^ 54) (2 ^ 54 + 7) (q * (v * (2 ^ 51 + 1))) (2 ^ 51 * d) part.num part.den
    over =
        let w = times-quotient (part-over weight.near) d in
        let c : Times (2 ^ 55) (2 ^ 55 + 9) (v * (2 ^ 51 + 1)) (2 ^ 51 * d) ratio.num ratio.den = times-times w (part-over ratio.near) (mul-pos weight.above d-above) (lit< tt) (lit≤ tt) in
        times-times (times-product c q) (part-over part.near) ratio.above (lit< tt) (lit≤ tt)

    under : Times (2 ^ 54) (2 ^ 54 + 7) part.num part.den (q * (v * (2 ^ 51 + 1))) (2 ^ 51 * d)
    under =
        let w = times-product (times-quotient (part-under weight.near) d) q in
        let c : Times (2 ^ 55) (2 ^ 55 + 9) part.num part.den (q * weight.num) (weight.den * d) = times-times (part-under part.near) (times-product (part-under ratio.near) q) ratio.above (lit< tt) (lit≤ tt) in
        times-times c w (mul-pos weight.above d-above) (lit< tt) (lit≤ tt)

    -- x·(1 − 2^−49), rounded
    less : Rounded binary64 (mul binary64 (mul binary64 t (div binary64 (mul binary64 y slightly_more) z)) slightly_less) (unlike s false) ((2 ^ 49 - 1) * part.num) (part.den * 2 ^ 49)
    less =
        let most : Between 1 (2 ^ 49 - 1) (2 ^ 49) = record { low = lit≤ tt; high = lit≤ tt } in
        let b = product-between (rounded-between ratio.above part-between part.near) most in
        rw (product-rounded binary64 part.is part.above slightly-less-is (lit< tt) ∙ ap₂ (λ s n. round binary64 s n (part.den * 2 ^ 49)) (same_sign s) (mul_comm part.num (2 ^ 49 - 1)))
        (double (unlike s false) (mul-pos part.above (lit< tt)) (lit≤ tt) (subst (λ n. Between (53 + (53 + 1 + 1 + 53 + 1) + 1 + 1) n (part.den * 2 ^ 49)) (mul_comm part.num (2 ^ 49 - 1)) b))

    less-over : Times (2 ^ 54) (2 ^ 54 + 10) ((2 ^ 49 - 1) * (q * (v * (2 ^ 51 + 1)))) (2 ^ 51 * d * 2 ^ 49) less.num less.den
    less-over =
        times-times (times-quotient (times-product over (2 ^ 49 - 1)) (2 ^ 49)) (part-over less.near) (mul-pos part.above (lit< tt)) (lit< tt) (lit≤ tt)

    -- x lies above V·q/D, and is not large
    lower : (A B m n x e : ℕ) → A * (q * (v * m) * e) ≤ B * (x * (n * d)) → A * m * (v * q * e) ≤ B * n * (x * d)
    lower A B m n x e h = omega (arith, h)

    upper : (A B m n x e : ℕ) → A * (x * (n * d)) ≤ B * (q * (v * m) * e) → A * n * (x * d) ≤ B * m * (v * q * e)
    upper A B m n x e h = omega (arith, h)

    part-above : v * q * part.den < part.num * d
    part-above =
        above-it (2 ^ 54 * (2 ^ 51 + 1)) ((2 ^ 54 + 7) * 2 ^ 51) _ _ (lit< tt) (mul-pos (mul-pos v_above q-above) part.above)
        (lower (2 ^ 54) (2 ^ 54 + 7) (2 ^ 51 + 1) (2 ^ 51) part.num part.den under.most)

    part_small : v * q ≤ 2 ^ 48 * d → part.num < 2 ^ 51 * part.den
    part_small h =
        let l = not-large (2 ^ 54 * 2 ^ 51) ((2 ^ 54 + 7) * (2 ^ 51 + 1)) (2 ^ 48) (v * q) d part.num part.den (mul-pos {m = 2 ^ 54 * 2 ^ 51} (lit< tt) d-above) (lit≤ tt) h (upper (2 ^ 54) (2 ^ 54 + 7) (2 ^ 51 + 1) (2 ^ 51) part.num part.den over.most) in
        omega (arith, l, part.above)

    -- what is slightly less lies below it
    further : (A B l m n x e : ℕ) → A * (x * (n * d * m)) ≤ B * (l * (q * (v * (n + 1))) * e) → A * n * m * (x * d) ≤ B * l * (n + 1) * (v * q * e)
    further A B l m n x e h = omega (arith, h)

    less-below : less.num * d < v * q * less.den
    less-below =
        below-it (2 ^ 54 * 2 ^ 51 * 2 ^ 49) ((2 ^ 54 + 10) * (2 ^ 49 - 1) * (2 ^ 51 + 1)) _ _ (lit< tt) (mul-pos (mul-pos v_above q-above) less.above)
        (further (2 ^ 54) (2 ^ 54 + 10) (2 ^ 49 - 1) (2 ^ 49) (2 ^ 51) less.num less.den less-over.most)

    less-small : v * q ≤ 2 ^ 48 * d → less.num < 2 ^ 51 * less.den
    less-small h = lt_of_mul-lt-mul_right d (omega (arith, less-below, mul-le-mul_right less.den h, mul-pos d-above less.above))

    part-again : v * q ≤ 2 ^ 48 * d → certain (mul binary64 t (div binary64 (mul binary64 y slightly_more) z)) ≡ true
        → sub binary64 (add binary64 (mul binary64 t (div binary64 (mul binary64 y slightly_more) z)) middle) middle ≡ of_int binary64 (cond (unlike s false) (neg_ℤ (pos ((2 * (v * q) + d) / (2 * d)))) (pos ((2 * (v * q) + d) / (2 * d))))
    unfolding certain
    part-again h =
        between-again d-above (omega (arith, h)) part.above (part_small h) part-above less.above (less-small h) less-below (unlike s false) part.is less.is

  -- halves away from zero, with q's sign; a q of 0 gives 0
  pub quotient-again : (q : ℤ) → nat_abs q ≤ 2 ^ 53 → v * nat_abs q ≤ 2 ^ 48 * d → certain (mul binary64 (of_int binary64 q) (div binary64 (mul binary64 y slightly_more) z)) ≡ true
      → sub binary64 (add binary64 (mul binary64 (of_int binary64 q) (div binary64 (mul binary64 y slightly_more) z)) middle) middle ≡ of_int binary64 (away (pos v *ℤ q) d)
  unfolding away
  quotient-again (pos zero) m h e =
      let n : pos 0 ≡ away (pos (v * 0)) d = ap pos (sym (div-eq_of_lt {n = 2 * (v * 0) + d} {m = 2 * d} (omega arith))) in
      nearest-again (nearest-nothing (nothing-times binary64 (whole_of binary64 (pos 0) m) ratio.is ratio.above)) ∙ ap (of_int binary64) n
  quotient-again (pos (suc n)) m h e = part-again (whole_of binary64 (pos (suc n)) m) (omega arith) m h e
  quotient-again (negsuc n) m h e =
      part-again (whole_of binary64 (negsuc n) m) (omega arith) m h e ∙ ap (of_int binary64) (sym (away-odd (pos (v * suc n)) d d-above))
