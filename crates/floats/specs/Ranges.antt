-- Fractions between 2^−j and 2^j, and fractions that differ by a factor: how both carry over products, quotients and roundings.
use Rattle.std.specs.Prelude.{◌+◌, ◌-◌, ◌*◌, ◌^◌, ◌≤◌, ◌<◌}
use Rattle.algebra.specs.Prelude.{ap, ℕ, zero, suc, arith}
use Rattle.std.proofs.Common.{le_trans, mul-le-mul, mul-le-mul_left, mul-le-mul_right, le_of_mul-le-mul_right, pow-add, pow_pos, pow_mono}
use Rattle.std.proofs.Math.Nat.{le_of_mul-le-mul_left}
use Rattle.floats.specs.RelativeError.{OnePart}

-- ---- ranges

-- 2^−j ≤ a/c ≤ 2^j
pub record Between (j a c : ℕ) : Type 0 where
  pub low : c ≤ a * 2 ^ j
  pub high : a ≤ c * 2 ^ j

pub whole-between : (j n : ℕ) → 0 < n → n ≤ 2 ^ j → Between j n 1
whole-between j n h l = record { low = mul-le-mul h (pow_pos j); high = omega arith }

pub wider : {i j a c : ℕ} → i ≤ j → Between i a c → Between j a c
wider {i} {j} {a} {c} h r = record { low = le_trans r.low (mul-le-mul_left a (pow_mono h)); high = le_trans r.high (mul-le-mul_left c (pow_mono h)) }

module _ {i j a c b d : ℕ} (p : Between i a c) (q : Between j b d) where
  pub product-between : Between (i + j) (a * b) (c * d)
  product-between =
      record {
        low = omega (arith, mul-le-mul p.low q.low, ap (λ z. a * b * z) (pow-add 2 i j));
        high = omega (arith, mul-le-mul p.high q.high, ap (λ z. c * d * z) (pow-add 2 i j));
      }

  pub quotient-between : Between (i + j) (a * d) (c * b)
  quotient-between =
      record {
        low = omega (arith, mul-le-mul p.low q.high, ap (λ z. a * d * z) (pow-add 2 i j));
        high = omega (arith, mul-le-mul p.high q.low, ap (λ z. c * b * z) (pow-add 2 i j));
      }

first_above : (a k : ℕ) → 0 < a * k → 0 < a
first_above zero k h = absurd (omega arith)
first_above (suc a) k h = omega arith

pub rounded-between : {j a c b d : ℕ} → 0 < c → Between j a c → OnePart 53 a c b d → Between (j + 1) b d
rounded-between {j} {a} {c} {b} {d} C r n =
    let over : b * c ≤ 2 * (a * d) = omega (arith, n.over) in
    let under : a * d ≤ 2 * (b * c) = omega (arith, n.under) in
    let A : 0 < a = first_above a (2 ^ j) (le_trans C r.low) in
    let l : a * d ≤ a * (b * (2 ^ j * 2)) = omega (arith, under, mul-le-mul_left (2 * b) r.low) in
    let h : c * b ≤ c * (d * (2 ^ j * 2)) = omega (arith, over, mul-le-mul_left (2 * d) r.high) in
    record {
      low = rw (pow-add 2 j 1) (le_of_mul-le-mul_left l A);
      high = rw (pow-add 2 j 1) (le_of_mul-le-mul_left h C);
    }

-- ---- factors

-- b/d is at most B/A times a/c
pub record Times (A B a c b d : ℕ) : Type 0 where
  pub most : A * (b * c) ≤ B * (a * d)

pub part-over : {a c b d : ℕ} → OnePart 53 a c b d → Times (2 ^ 53) (2 ^ 53 + 1) a c b d
part-over n = record { most = omega (arith, n.over) }

pub part-under : {a c b d : ℕ} → OnePart 53 a c b d → Times (2 ^ 53 - 1) (2 ^ 53) b d a c
part-under n = record { most = omega (arith, n.under) }

module _ {A B a c b d : ℕ} (t : Times A B a c b d) where
  pub times-product : (q : ℕ) → Times A B (q * a) c (q * b) d
  times-product q = record { most = omega (arith, mul-le-mul_left q t.most) }

  pub times-quotient : (q : ℕ) → Times A B a (c * q) b (d * q)
  times-quotient q = record { most = omega (arith, mul-le-mul_left q t.most) }

  -- one after the other, with a factor that is no smaller
  pub times-times : {A' B' e g : ℕ} → Times A' B' b d e g → 0 < d → {A'' B'' : ℕ} → 0 < A * A' → B * B' * A'' ≤ B'' * (A * A') → Times A'' B'' a c e g
  times-times {A'} {B'} {e} {g} u D {A''} {B''} P h =
      let l : A * A' * (e * c) * d ≤ B * B' * (a * g) * d = omega (arith, mul-le-mul_left (A * c) u.most, mul-le-mul_left (B' * g) t.most) in
      let m : A * A' * (e * c) ≤ B * B' * (a * g) = le_of_mul-le-mul_right l D in
      let n : A * A' * (A'' * (e * c)) ≤ A * A' * (B'' * (a * g)) = omega (arith, mul-le-mul_left A'' m, mul-le-mul_right (a * g) h) in
      record { most = le_of_mul-le-mul_left n P }
