-- Rounding errs by at most one part in 2^prec, where the fraction is neither too large nor too small for the format: one part in 2^53 in double.
use Rattle.algebra.specs.Prelude.{sym, ap, subst, ◌∙◌, Bool, not, ℕ, arith, T}
use Prim.Native.Nat.{compare, Ordering}
use Rattle.std.proofs.Common.{mul-pos, lt_of_le_of_lt, div-add-mod', mod-lt, mul-le-mul_left, mul-le-mul_right, le_of_mul-le-mul_right, le-div_iff_mul-le, leb→le, eqb→eq, pow-add, pow_pos}
use Rattle.std.proofs.Math.Nat.{le_of_mul-le-mul_left}
use Rattle.std.proofs.Math.Dec.{is_le, compare_is_eq, nleb→lt, eqb_refl}
use Rattle.std.specs.Prelude.{eqb, Float, ◌≡◌, ◌+◌, ◌-◌, ◌*◌, ◌/◌, ◌%◌, ◌^◌, ◌≤◌, ◌<◌}
use Rattle.std.proofs.Math.Arith.{lt_of_le-ne}
use Rattle.std.proofs.Math.Pow.{pow-lt}
use Rattle.std.specs.Float.{Format}
use Rattle.std.specs.Float.Ieee.{prec, emax, low, size, nearest, round}
use Rattle.std.specs.Float.Ieee.Digits.{size_reaches}
use Rattle.std.specs.Float.Ieee.Fits.{round_is, two, reach}
use Rattle.std.specs.Float.Ieee.Exact.{units_val}
use Rattle.std.specs.Float.Ieee.Nearest.{closest}
use Rattle.std.specs.Float.Ieee.Order.{kept, drop}
use Rattle.std.specs.Float.Ieee.Scale.{grid, overflow, normal_of_fraction}
use Rattle.floats.specs.Fractions.{Is, of-value}

-- ---- a fraction to the nearest whole number is within a half

abbrev Compared : Ordering → ℕ → ℕ → Type 0
Compared Ordering.lt a b = a < b
Compared Ordering.eq a b = a ≡ b
Compared Ordering.gt a b = b < a

compared : (a b : ℕ) → Compared (compare a b) a b
compared a b = go (compare a b) (leb→le a b) (nleb→lt a b) (eqb→eq a b) (λ e. subst (λ x. T (eqb a x)) e (eqb_refl a))
  where
    go : (o : Ordering) → (T (is_le o) → a ≤ b) → (T (not (is_le o)) → b < a) → (T (compare_is_eq o) → a ≡ b) → (a ≡ b → T (compare_is_eq o)) → Compared o a b
    go Ordering.lt h k e n = lt_of_le-ne (h tt) n
    go Ordering.eq h k e n = e tt
    go Ordering.gt h k e n = k tt

pub record WithinHalf (k a b : ℕ) : Type 0 where
  pub over : 2 * (k * b) ≤ 2 * a + b
  pub under : 2 * a ≤ 2 * (k * b) + b

pub closest-within : (a b : ℕ) → 0 < b → WithinHalf (closest a b) a b
closest-within a b h = go (compare (a % b * 2) b) (compared (a % b * 2) b)
  where
    go : (o : Ordering) → Compared o (a % b * 2) b → WithinHalf (nearest (a / b) o) a b
    go Ordering.lt c = record { over = omega (arith, div-add-mod' a b); under = omega (arith, div-add-mod' a b) }
    go Ordering.eq c =
        let l : a / b % 2 ≤ 1 = omega arith in
        let m = mul-le-mul_right b l in
        record { over = omega (arith, div-add-mod' a b, m); under = omega (arith, div-add-mod' a b, m) }
    go Ordering.gt c = record { over = omega (arith, div-add-mod' a b, mod-lt a h); under = omega (arith, div-add-mod' a b, mod-lt a h) }

-- ---- one part in 2^prec

-- b/d is a/c but for one part in 2^p of it
pub record OnePart (p a c b d : ℕ) : Type 0 where
  pub over : 2 ^ p * (b * c) ≤ 2 ^ p * (a * d) + a * d
  pub under : 2 ^ p * (a * d) ≤ 2 ^ p * (b * c) + a * d

-- x is a fraction that is a/c but for one part in 2^prec, with the sign s
pub record Rounded (f : Format) (x : Float) (s : Bool) (a c : ℕ) : Type 0 where
  pub num : ℕ
  pub den : ℕ
  pub above : 0 < den
  pub is : Is x s num den
  pub near : OnePart (prec f) a c num den

halves : (p : ℕ) → 0 < p → 2 * 2 ^ (p - 1) ≡ 2 ^ p
halves p h = sym (pow-add 2 1 (p - 1)) ∙ ap (λ n. 2 ^ n) (omega arith)

-- where no digit is missing, a unit of what is kept is at most one part in 2^(p − 1)
unit-small : (p n c : ℕ) → 0 < p → 0 < c → p ≤ size (n / c) → 2 ^ (p - 1) * (c * 2 ^ drop p n c) ≤ n
unit-small p n c P C h =
    let k = drop p n c in
    let l : 2 ^ (p - 1 + k) * c ≤ n = (le-div_iff_mul-le C).0 (size_reaches (n / c) (p - 1 + k) (omega arith)) in
    omega (arith, l, ap (λ z. z * c) (pow-add 2 (p - 1) k))

module _ (f : Format) (a c : ℕ) (C : 0 < c) (normal : prec f ≤ size (a * 2 ^ low f / c)) where
  grid-near : OnePart (prec f) a c (grid f a c) (2 ^ low f)
  grid-near =
      let p = prec f in
      let P : 0 < p = omega (arith, two f) in
      let n = a * 2 ^ low f in
      let k = drop p n c in
      let w = closest-within n (c * 2 ^ k) (mul-pos C (pow_pos k)) in
      let u = unit-small p n c P C normal in
      let t = halves p P in
      record {
        over = omega (arith, u, mul-le-mul_left (2 ^ (p - 1)) w.over, ap (λ z. z * (closest n (c * 2 ^ k) * (c * 2 ^ k))) t, ap (λ z. z * n) t);
        under = omega (arith, u, mul-le-mul_left (2 ^ (p - 1)) w.under, ap (λ z. z * (closest n (c * 2 ^ k) * (c * 2 ^ k))) t, ap (λ z. z * n) t);
      }

  grid-below : a ≤ c * 2 ^ (emax f - 1) → grid f a c < overflow f
  grid-below h =
      let l = low f in
      let g = grid f a c in
      let e : 0 < emax f = omega (arith, two f, reach f) in
      let n = a * 2 ^ l in
      let m : 2 ^ prec f * (g * c) ≤ 2 ^ prec f * (2 * n) = omega (arith, grid-near.over, mul-le-mul_right n (pow_pos (prec f))) in
      let k : g * c ≤ 2 * n = le_of_mul-le-mul_left m (pow_pos (prec f)) in
      let r : g * c ≤ 2 * 2 ^ (emax f - 1) * 2 ^ l * c = omega (arith, k, mul-le-mul_right (2 ^ l) h) in
      lt_of_le_of_lt (le_of_mul-le-mul_right r C) (rw (halves (emax f) e, ← (pow-add 2 (emax f) l)) (pow-lt (omega arith)))

-- the range: a/c is from 2^(1 − emax) to 2^(emax − 1)
pub rounded : (f : Format) (s : Bool) (a c : ℕ) → 0 < c → c ≤ a * 2 ^ (emax f - 1) → a ≤ c * 2 ^ (emax f - 1) → Rounded f (round f s a c) s a c
rounded f s a c C small large =
    let normal = normal_of_fraction f a c C (smallest f a c small) in
    record {
      num = grid f a c;
      den = 2 ^ low f;
      above = pow_pos (low f);
      is = of-value (round f s a c) s (grid f a c) (2 ^ low f)
          (rw (round_is f s a c) (units_val f s (kept (prec f) (a * 2 ^ low f) c) (drop (prec f) (a * 2 ^ low f) c) (grid-below f a c C normal large)));
      near = grid-near f a c C normal;
    }
  where
    smallest : (f : Format) (a c : ℕ) → c ≤ a * 2 ^ (emax f - 1) → 2 ^ (prec f - 1) * c ≤ a * 2 ^ low f
    smallest f a c h =
        let e : prec f - 1 + (emax f - 1) ≡ low f = omega (arith, two f, reach f) in
        omega (arith, mul-le-mul_left (2 ^ (prec f - 1)) h, ap (λ z. a * z) (sym (pow-add 2 (prec f - 1) (emax f - 1)) ∙ ap (λ n. 2 ^ n) e))
