-- A whole number of at most 2^53 over 2^31, to nearest, halves away from zero, by two sums with 1.5·2^52. The first is of a product that lies above the quotient: it
-- is rounded to what is wanted, or to one more in magnitude. The second is of what is then left, times a little less than 2^−31: it takes that one off again.
use Rattle.algebra.specs.Prelude.{refl, sym, ap, ap₂, subst, ◌∙◌, Bool, true, false, cond, ℕ, zero, suc, arith, ltb, lit<, lit≤, ℤ, pos, negsuc, nat_abs, neg_ℤ}
use Rattle.std.proofs.Common.{one-mul, mul-pos, mul-le-mul_left, mul-le-mul_right, lt_of_le_of_lt, mul-lt-mul_of_pos_right, lt_of_mul-lt-mul_right, ltb-true, ltb-false}
use Rattle.std.proofs.Math.Nat.{lt_of_mul-lt-mul_left}
use Rattle.std.proofs.Math.IntN.{sub_ℕ}
use Rattle.std.specs.Prelude.{Float, ◌≡◌, ◌+◌, ◌-◌, ◌*◌, ◌/◌, ◌^◌, ◌≤◌, ◌<◌, ◌+ℤ◌, ◌-ℤ◌, ◌*ℤ◌}
use Rattle.std.specs.Float.{fin, binary64}
use Rattle.std.specs.Float.Ieee.{round, add, sub, mul, of_int, unlike}
use Rattle.algebra.specs.Nearest.{away}
use Rattle.algebra.specs.Order.{abs_neg, abs-mul}
use Rattle.algebra.specs.Diff.{sub_cases, pos-as, negsuc-as, neg-as, sub-eq, sub-add, sub-neg, sub-mul}
use Rattle.floats.specs.Fractions.{Is, product-rounded}
use Rattle.floats.specs.Wholes.{Whole, whole_of, nothing-times}
use Rattle.floats.specs.RelativeError.{Rounded, rounded}
use Rattle.floats.specs.NearestWhole.{Closer}
use Rattle.floats.specs.Ranges.{Between, whole-between, wider, product-between, part-over, part-under}
use Rattle.floats.specs.Kernels.{product-of, difference-of}
use Rattle.floats.specs.Middle.{middle, Counts, Within, within-counts, nearest-counts, nearest-nothing, nearest-again}
use Rattle.floats.specs.ProductLaws.{fraction, fraction-is, product, product-over, product-under}

-- ---- what is left: 0 up to a half, and 1 above it

-- 2^−31·(1 − 2^−53)
unfoldable pub less_fraction : Float
less_fraction = fin false (2 ^ 53 - 1) (negsuc 83)

less-is : Is less_fraction false (2 ^ 53 - 1) (2 ^ 84)
unfolding less_fraction
less-is = record { digits = 2 ^ 53 - 1; exponent = negsuc 83; is = refl; value = refl }

-- bounds whose factors are literals
below_by : (A K p q x d : ℕ) → K * p < A * q → 0 < d → A * x ≤ K * d → p * x < q * d
below_by A K p q x d l h k = lt_of_mul-lt-mul_left A (omega (arith, mul-le-mul_left p k, mul-lt-mul_of_pos_right l h))

above-by : (A K p q x d : ℕ) → A * q < K * p → 0 < d → K * d ≤ A * x → q * d < p * x
above-by A K p q x d l h k = lt_of_mul-lt-mul_left A (omega (arith, mul-le-mul_left p k, mul-lt-mul_of_pos_right l h))

at_most : (A D C m E x e d : ℕ) → A * (x * D) ≤ C * (e * m * d) → e ≤ E → A * D * x ≤ C * m * E * d
at_most A D C m E x e d h l = omega (arith, h, mul-le-mul_left (C * m) (mul-le-mul_right d l))

at_least : (A D C m E x e d : ℕ) → C * (e * m * d) ≤ A * (x * D) → E ≤ e → C * m * E * d ≤ A * D * x
at_least A D C m E x e d h l = omega (arith, h, mul-le-mul_left (C * m) (mul-le-mul_right d l))

module _ {e : ℕ} {y : Float} {s : Bool} (p : Whole y s e) (above : 0 < e) (most : e ≤ 2 ^ 31) where
  rest : Rounded binary64 (mul binary64 y less_fraction) (unlike s false) (e * (2 ^ 53 - 1)) (2 ^ 84)
  rest =
      let b : Between 84 (2 ^ 53 - 1) (2 ^ 84) = record { low = lit≤ tt; high = lit≤ tt } in
      let w = subst (λ n. Between 1022 (e * (2 ^ 53 - 1)) n) (one-mul (2 ^ 84)) (wider {j = 1022} (lit≤ tt) (product-between (whole-between 31 e above most) b)) in
      rw (product-rounded binary64 p (lit< tt) less-is (lit< tt) ∙ ap (round binary64 (unlike s false) (e * (2 ^ 53 - 1))) (one-mul (2 ^ 84)))
      (rounded binary64 (unlike s false) (e * (2 ^ 53 - 1)) (2 ^ 84) (lit< tt) w.low w.high)

  rest-counts : (k : ℕ) → k < 2 ^ 51 → Closer k rest.num rest.den → Counts (mul binary64 y less_fraction) (cond (unlike s false) (neg_ℤ (pos k)) (pos k))
  rest-counts k h c =
      nearest-counts (record { sign = unlike s false; num = rest.num; den = rest.den; count = k; above = rest.above; is = rest.is; close = c; small = h; value = refl })

  rest_below : (E p q : ℕ) → e ≤ E → (2 ^ 53 + 1) * (2 ^ 53 - 1) * E * p < 2 ^ 53 * 2 ^ 84 * q → p * rest.num < q * rest.den
  rest_below E p q h l =
      below_by (2 ^ 53 * 2 ^ 84) ((2 ^ 53 + 1) * (2 ^ 53 - 1) * E) p q rest.num rest.den l rest.above
      (at_most (2 ^ 53) (2 ^ 84) (2 ^ 53 + 1) (2 ^ 53 - 1) E rest.num e rest.den (part-over rest.near).most h)

  rest-none : e ≤ 2 ^ 30 → Counts (mul binary64 y less_fraction) (cond (unlike s false) (neg_ℤ (pos 0)) (pos 0))
  rest-none h = rest-counts 0 (lit< tt) (record { over = omega (arith, rest.above); under = omega (arith, rest_below (2 ^ 30) 2 1 h (lit< tt)) })

  rest-one : 2 ^ 30 < e → Counts (mul binary64 y less_fraction) (cond (unlike s false) (neg_ℤ (pos 1)) (pos 1))
  rest-one h =
      let l : 1 * rest.den < 2 * rest.num = above-by (2 ^ 53 * 2 ^ 84) ((2 ^ 53 - 1) * (2 ^ 53 - 1) * (2 ^ 30 + 1)) 2 1 rest.num rest.den (lit< tt) rest.above (at_least (2 ^ 53) (2 ^ 84) (2 ^ 53 - 1) (2 ^ 53 - 1) (2 ^ 30 + 1) rest.num e rest.den (part-under rest.near).most (omega (arith, h))) in
      rest-counts 1 (lit< tt) (record { over = omega (arith, l); under = omega (arith, rest_below (2 ^ 31) 2 3 most (lit< tt)) })

-- of a number l
left-none : (l : ℤ) → nat_abs l ≤ 2 ^ 30 → Counts (mul binary64 (of_int binary64 l) less_fraction) (pos 0)
left-none (pos zero) h = nearest-nothing (nothing-times binary64 (whole_of binary64 (pos 0) (lit≤ tt)) less-is (lit< tt))
left-none (pos (suc n)) h = rest-none (whole_of binary64 (pos (suc n)) (omega arith)) (omega arith) (omega arith) h
left-none (negsuc n) h = rest-none (whole_of binary64 (negsuc n) (omega arith)) (omega arith) (omega arith) h

left-more : (n : ℕ) → 2 ^ 30 < n → n ≤ 2 ^ 31 → Counts (mul binary64 (of_int binary64 (pos n)) less_fraction) (pos 1)
left-more n h m = rest-one (whole_of binary64 (pos n) (omega arith)) (omega arith) m h

left_less : (n : ℕ) → 2 ^ 30 < suc n → suc n ≤ 2 ^ 31 → Counts (mul binary64 (of_int binary64 (negsuc n)) less_fraction) (negsuc 0)
left_less n h m = rest-one (whole_of binary64 (negsuc n) (omega arith)) (omega arith) m h

-- ---- the first sum

-- j times 2^31 is B within a half, but for a little that it may be above
pub record Nearly (B j : ℕ) : Type 0 where
  pub over : 2 * (2 ^ 31 * j) < 2 * B + 2 ^ 31 + 8
  pub under : 2 * B < 2 * (2 ^ 31 * j) + 2 ^ 31

nearly-over : (A J D B j n d : ℕ) → J * B < 4 * A → 0 < A * d → 0 < d → 2 * (j * d) ≤ 2 * n + d → A * (n * D) ≤ (A + J) * (B * d) → 2 * (D * j) < 2 * B + D + 8
nearly-over A J D B j n d l a h k m = lt_of_mul-lt-mul_left (A * d) (omega (arith, mul-le-mul_left (A * D) k, m, mul-lt-mul_of_pos_right l h))

module _ {B : ℕ} {y : Float} {s : Bool} (p : Whole y s B) (above : 0 < B) (most : B ≤ 2 ^ 53) where
  abbrev part : Rounded binary64 (mul binary64 y (fraction 31)) (unlike s false) (B * (2 ^ 52 + 1)) (2 ^ (31 + 52))
  part = product {k = 31} p above most (lit< tt) (lit≤ tt)

  over : 2 ^ 105 * (part.num * 2 ^ 31) ≤ (2 ^ 105 + (2 ^ 53 + 2 ^ 52 + 1)) * (B * part.den)
  over = product-over {k = 31} p above most (lit< tt) (lit≤ tt)

  part_small : part.num < 2 ^ 50 * part.den
  part_small =
      let l = below_by (2 ^ 105 * 2 ^ 31) ((2 ^ 105 + (2 ^ 53 + 2 ^ 52 + 1)) * 1 * 2 ^ 53) 1 (2 ^ 50) part.num part.den (lit< tt) part.above (at_most (2 ^ 105) (2 ^ 31) (2 ^ 105 + (2 ^ 53 + 2 ^ 52 + 1)) 1 (2 ^ 53) part.num B part.den (unit (2 ^ 105 + (2 ^ 53 + 2 ^ 52 + 1)) (2 ^ 105) (part.num * 2 ^ 31) part.den over) most) in
      omega (arith, l)
    where
      unit : (C A x d : ℕ) → A * x ≤ C * (B * d) → A * x ≤ C * (B * 1 * d)
      unit C A x d h = omega (arith, h)

  first : Within (mul binary64 y (fraction 31)) (unlike s false) part.num part.den
  first = within-counts (unlike s false) part.is part.above part_small

  nearly : Nearly B first.count
  nearly =
      let d = part.den in
      let j = first.count in
      let u = product-under {k = 31} p above most (lit< tt) (lit≤ tt) in
      let l : (2 ^ 53 + 2 ^ 52 + 1) * B < 4 * 2 ^ 105 = lt_of_le_of_lt (mul-le-mul_left (2 ^ 53 + 2 ^ 52 + 1) most) (lit< tt) in
      record {
        over = nearly-over (2 ^ 105) (2 ^ 53 + 2 ^ 52 + 1) (2 ^ 31) B j part.num d l (mul-pos {m = 2 ^ 105} (lit< tt) part.above) part.above first.near.over over;
        under = lt_of_mul-lt-mul_right d (omega (arith, u, first.near.under));
      }

-- ---- both

-- what the second sum counts of l, and with h it is r
record Left (l h r : ℤ) : Type 0 where
  more : ℤ
  counts : Counts (mul binary64 (of_int binary64 l) less_fraction) more
  is : h +ℤ more ≡ r

module _ (B j : ℕ) (n : Nearly B j) where
  same : (k : ℕ) → k < 2 ^ 30 → B ≡ 2 ^ 31 * j + k → j ≡ (2 * B + 2 ^ 31) / (2 * 2 ^ 31)
  same k h e = omega arith

  same-below : (k : ℕ) → k ≤ 2 ^ 30 → 2 ^ 31 * j ≡ B + k → j ≡ (2 * B + 2 ^ 31) / (2 * 2 ^ 31)
  same-below k h e = omega arith

  one_more : (k : ℕ) → 2 ^ 30 < k → 2 ^ 31 * j ≡ B + k → (2 * B + 2 ^ 31) / (2 * 2 ^ 31) + 1 ≡ j
  one_more k h e = omega (arith, n.over)

  left-positive : Left (sub_ℕ B (2 ^ 31 * j)) (pos j) (pos ((2 * B + 2 ^ 31) / (2 * 2 ^ 31)))
  left-positive = sub_cases B (2 ^ 31 * j) (λ l. Left l (pos j) (pos ((2 * B + 2 ^ 31) / (2 * 2 ^ 31)))) up down
    where
      up : (k : ℕ) → B ≡ 2 ^ 31 * j + k → Left (pos k) (pos j) (pos ((2 * B + 2 ^ 31) / (2 * 2 ^ 31)))
      up k e =
          let h : k < 2 ^ 30 = omega (arith, n.under) in
          let m : j + 0 ≡ (2 * B + 2 ^ 31) / (2 * 2 ^ 31) = omega (arith, same k h e) in
          record { more = pos 0; counts = left-none (pos k) (omega arith); is = ap pos m }

      down : (k : ℕ) → 2 ^ 31 * j ≡ B + suc k → Left (negsuc k) (pos j) (pos ((2 * B + 2 ^ 31) / (2 * 2 ^ 31)))
      down k e = go (ltb (2 ^ 30) (suc k)) (ltb-true (2 ^ 30) (suc k)) (ltb-false (2 ^ 30) (suc k))
        where
          go : (c : Bool) → (c ≡ true → 2 ^ 30 < suc k) → (c ≡ false → suc k ≤ 2 ^ 30) → Left (negsuc k) (pos j) (pos ((2 * B + 2 ^ 31) / (2 * 2 ^ 31)))
          go true f g =
              let h = f refl in
              record { more = negsuc 0; counts = left_less k h (omega (arith, n.over)); is = sym (pos-as ((2 * B + 2 ^ 31) / (2 * 2 ^ 31)) j 1 (one_more (suc k) h e)) }
          go false f g =
              let m : j + 0 ≡ (2 * B + 2 ^ 31) / (2 * 2 ^ 31) = omega (arith, same-below (suc k) (g refl) e) in
              record { more = pos 0; counts = left-none (negsuc k) (g refl); is = ap pos m }

  left-negative : Left (sub_ℕ (2 ^ 31 * j) B) (neg_ℤ (pos j)) (neg_ℤ (pos ((2 * B + 2 ^ 31) / (2 * 2 ^ 31))))
  left-negative = sub_cases (2 ^ 31 * j) B (λ l. Left l (neg_ℤ (pos j)) (neg_ℤ (pos ((2 * B + 2 ^ 31) / (2 * 2 ^ 31))))) up down
    where
      -- the sum of −j and a
      less : (a r : ℕ) → r + a ≡ j → neg_ℤ (pos j) +ℤ pos a ≡ neg_ℤ (pos r)
      less a r e =
          ap₂ ◌+ℤ◌ (neg-as j 0 j (omega arith)) (pos-as a a 0 (omega arith)) ∙ sub-add 0 j a 0 ∙ sym (neg-as r (0 + a) (j + 0) (omega (arith, e)))

      up : (k : ℕ) → 2 ^ 31 * j ≡ B + k → Left (pos k) (neg_ℤ (pos j)) (neg_ℤ (pos ((2 * B + 2 ^ 31) / (2 * 2 ^ 31))))
      up k e = go (ltb (2 ^ 30) k) (ltb-true (2 ^ 30) k) (ltb-false (2 ^ 30) k)
        where
          go : (c : Bool) → (c ≡ true → 2 ^ 30 < k) → (c ≡ false → k ≤ 2 ^ 30) → Left (pos k) (neg_ℤ (pos j)) (neg_ℤ (pos ((2 * B + 2 ^ 31) / (2 * 2 ^ 31))))
          go true f g =
              let h = f refl in
              record { more = pos 1; counts = left-more k h (omega (arith, n.over)); is = less 1 ((2 * B + 2 ^ 31) / (2 * 2 ^ 31)) (one_more k h e) }
          go false f g =
              record { more = pos 0; counts = left-none (pos k) (g refl); is = less 0 ((2 * B + 2 ^ 31) / (2 * 2 ^ 31)) (omega (arith, same-below k (g refl) e)) }

      down : (k : ℕ) → B ≡ 2 ^ 31 * j + suc k → Left (negsuc k) (neg_ℤ (pos j)) (neg_ℤ (pos ((2 * B + 2 ^ 31) / (2 * 2 ^ 31))))
      down k e =
          let h : suc k < 2 ^ 30 = omega (arith, n.under) in
          record { more = pos 0; counts = left-none (negsuc k) (omega arith); is = less 0 ((2 * B + 2 ^ 31) / (2 * 2 ^ 31)) (omega (arith, same (suc k) h e)) }

-- what is left of x where the first sum counts h: 2^31 times it is taken off
abbrev pub first_part : Float → Float
first_part x = mul binary64 x (fraction 31)

abbrev pub second_part : Float → Float
second_part x = mul binary64 (sub binary64 x (mul binary64 (of_int binary64 (pos (2 ^ 31))) (sub binary64 (add binary64 (first_part x) middle) middle))) less_fraction

pub record Twice (x : Float) (r : ℤ) : Type 0 where
  pub first : ℤ
  pub second : ℤ
  pub first_counts : Counts (first_part x) first
  pub second_counts : Counts (second_part x) second
  pub is : first +ℤ second ≡ r

left_is : (z h : ℤ) → nat_abs z ≤ 2 ^ 53 → nat_abs (pos (2 ^ 31) *ℤ h) ≤ 2 ^ 53 → nat_abs h ≤ 2 ^ 53 → Counts (first_part (of_int binary64 z)) h → second_part (of_int binary64 z) ≡ mul binary64 (of_int binary64 (z -ℤ (pos (2 ^ 31) *ℤ h))) less_fraction
left_is z h a b m c =
    ap (λ x. mul binary64 x less_fraction)
    (ap (λ x. sub binary64 (of_int binary64 z) (mul binary64 (of_int binary64 (pos (2 ^ 31))) x)) (nearest-again c)
    ∙ ap (sub binary64 (of_int binary64 z)) (product-of binary64 (2 ^ 31) h (lit< tt) (whole_of binary64 (pos (2 ^ 31)) (lit≤ tt)) (whole_of binary64 h m))
    ∙ difference-of binary64 z (pos (2 ^ 31) *ℤ h) (whole_of binary64 z a) (whole_of binary64 (pos (2 ^ 31) *ℤ h) b))

joined : (z : ℤ) {h l r : ℤ} → nat_abs z ≤ 2 ^ 53 → nat_abs (pos (2 ^ 31) *ℤ h) ≤ 2 ^ 53 → nat_abs h ≤ 2 ^ 53 → Counts (first_part (of_int binary64 z)) h → z -ℤ (pos (2 ^ 31) *ℤ h) ≡ l → Left l h r → Twice (of_int binary64 z) r
joined z {h} a b m c e f = record {
  first = h;
  second = f.more;
  first_counts = c;
  second_counts = subst (λ x. Counts x f.more) (sym (left_is z h a b m c ∙ ap (λ l. mul binary64 (of_int binary64 l) less_fraction) e)) f.counts;
  is = f.is;
}

positive-left : (B j : ℕ) → pos B -ℤ (pos (2 ^ 31) *ℤ pos j) ≡ sub_ℕ B (2 ^ 31 * j)
positive-left B j =
    ap₂ ◌-ℤ◌ (pos-as B B 0 (omega arith)) (pos-as (2 ^ 31 * j) (2 ^ 31 * j) 0 (omega arith)) ∙ ap (λ w. sub_ℕ B 0 +ℤ w) (sub-neg (2 ^ 31 * j) 0)
    ∙ sub-add B 0 0 (2 ^ 31 * j) ∙ sub-eq (B + 0) (0 + 2 ^ 31 * j) B (2 ^ 31 * j) (omega arith)

negative-left : (b j : ℕ) → negsuc b -ℤ (pos (2 ^ 31) *ℤ neg_ℤ (pos j)) ≡ sub_ℕ (2 ^ 31 * j) (suc b)
negative-left b j =
    ap₂ ◌-ℤ◌ (negsuc-as b 0 (suc b) (omega arith)) (ap₂ ◌*ℤ◌ (pos-as (2 ^ 31) (2 ^ 31) 0 (omega arith)) (neg-as j 0 j (omega arith)) ∙ sub-mul (2 ^ 31) 0 0 j)
    ∙ ap (λ w. sub_ℕ 0 (suc b) +ℤ w) (sub-neg (2 ^ 31 * 0 + 0 * j) (2 ^ 31 * j + 0 * 0))
    ∙ sub-add 0 (suc b) (2 ^ 31 * j + 0 * 0) (2 ^ 31 * 0 + 0 * j) ∙ sub-eq (0 + (2 ^ 31 * j + 0 * 0)) (suc b + (2 ^ 31 * 0 + 0 * j)) (2 ^ 31 * j) (suc b) (omega arith)

count_most : (B j : ℕ) → B ≤ 2 ^ 53 → Nearly B j → j ≤ 2 ^ 22
count_most B j h n = omega (arith, n.over)

negated-most : (j : ℕ) → j ≤ 2 ^ 22 → nat_abs (neg_ℤ (pos j)) ≤ 2 ^ 53
negated-most j h = rw (abs_neg (pos j)) (omega (arith, h))

scaled-most : (j : ℕ) → j ≤ 2 ^ 22 → nat_abs (pos (2 ^ 31) *ℤ neg_ℤ (pos j)) ≤ 2 ^ 53
scaled-most j h = rw (abs-mul (pos (2 ^ 31)) (neg_ℤ (pos j)), abs_neg (pos j)) (omega (arith, h))

-- a whole number of at most 2^53 over 2^31
pub twice : (z : ℤ) → nat_abs z ≤ 2 ^ 53 → Twice (of_int binary64 z) (away z (2 ^ 31))
unfolding away
twice (pos zero) h =
    let w = nothing-times binary64 (whole_of binary64 (pos 0) (lit≤ tt)) (fraction-is 31) (lit< tt) in
    joined (pos 0) h (lit≤ tt) (lit≤ tt) (nearest-nothing w) refl (record { more = pos 0; counts = left-none (pos 0) (lit≤ tt); is = refl })
twice (pos (suc n)) h =
    let p = whole_of binary64 (pos (suc n)) h in
    let a : 0 < suc n = omega arith in
    let j = (first p a h).count in
    let m = count_most (suc n) j h (nearly p a h) in
    joined (pos (suc n)) h (omega (arith, m)) (omega (arith, m)) (first p a h).counts (positive-left (suc n) j) (left-positive (suc n) j (nearly p a h))
twice (negsuc n) h =
    let p = whole_of binary64 (negsuc n) h in
    let a : 0 < suc n = omega arith in
    let j = (first p a h).count in
    let m = count_most (suc n) j h (nearly p a h) in
    joined (negsuc n) h (scaled-most j m) (negated-most j m) (first p a h).counts (negative-left n j) (left-negative (suc n) j (nearly p a h))
