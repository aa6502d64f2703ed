-- Floats as fractions: a product, a quotient and a sum of two is the fraction that it would be, rounded once.
use Rattle.algebra.specs.Prelude.{ltb, refl, sym, ap, ap₂, ◌∙◌, Bool, true, false, ℕ, zero, suc, arith, eqb, ℤ}
use Rattle.std.proofs.lemmas.Bool.{false≢true}
use Rattle.std.proofs.Math.Nat.{mul-pos, mul-sub, eq_of_mul-eq-mul_right, le_of_mul-le-mul_right, lt_of_mul-lt-mul_right}
use Rattle.std.proofs.Common.{mul_comm, eqb→eq}
use borrow.Author.Tests.{lt-ltb, le-ltb}
use Rattle.std.proofs.Math.Dec.{not_T}
use Rattle.std.specs.Prelude.{Float, ◌≡◌, ◌&&◌, ◌≤◌, ◌+◌, ◌-◌, ◌*◌, ◌<◌}
use Rattle.std.specs.Float.Ieee.{fin, up, down, unlike, round, sum, add, mul, div}
use Rattle.std.specs.Float.{Format}
use Rattle.std.specs.Float.Ieee.Fits.{down_pos}
use Rattle.std.specs.Float.Ieee.Bits.{cond_no}
use Rattle.std.specs.Float.Ieee.Exact.{HasValue}
use Rattle.std.specs.Float.Ieee.Scale.{round_same}

-- x is the fraction a/c with the sign s
pub record Is (x : Float) (s : Bool) (a c : ℕ) : Type 0 where
  pub digits : ℕ
  pub exponent : ℤ
  pub is : x ≡ fin s digits exponent
  pub value : digits * up exponent * c ≡ a * down exponent

pub of-value : (x : Float) (s : Bool) (a c : ℕ) → HasValue x s a c → Is x s a c
of-value lib.Ieee.nan s a c v = elim v [ ]
of-value (lib.Ieee.inf _) s a c v = elim v [ ]
of-value (fin t m e) s a c v = record { digits = m; exponent = e; is = ap (λ s. fin s m e) v.0; value = v.1 }

magnitude-above : {x : Float} {s : Bool} {a c : ℕ} (p : Is x s a c) → 0 < a → 0 < p.digits * up p.exponent
magnitude-above {c = c} p h = above (p.digits * up p.exponent) c (rw p.value (mul-pos h (down_pos p.exponent)))
  where
    above : (m c : ℕ) → 0 < m * c → 0 < m
    above zero c h = absurd (omega arith)
    above (suc m) c h = omega arith

has-digits : {x : Float} {s : Bool} {a c : ℕ} (p : Is x s a c) → 0 < a → p.digits ≡ 0 → ⊥
has-digits p h z = omega (arith, magnitude-above p h, ap (λ m. m * up p.exponent) z)

times-less : (B A k : ℕ) → (B - A) * k ≡ B * k - A * k
times-less B A k = mul_comm (B - A) k ∙ mul-sub k B A ∙ ap₂ ◌-◌ (mul_comm k B) (mul_comm k A)

-- sums over one divisor: of one sign, and of two, the second the larger
module _ (f : Format) where
  same-signs : (s : Bool) (a b c : ℕ) → sum f s a s b c ≡ round f s (a + b) c
  unfolding sum
  same-signs true a b c = refl
  same-signs false a b c = refl

  opposite-signs : (s t : Bool) (a b c : ℕ) → unlike s t ≡ true → a < b → sum f s a t b c ≡ round f t (b - a) c
  unfolding sum
  opposite-signs true true a b c e h = absurd (false≢true e)
  opposite-signs true false a b c e h = rw (lt-ltb a b h) refl
  opposite-signs false true a b c e h = rw (lt-ltb a b h) refl
  opposite-signs false false a b c e h = absurd (false≢true e)

  remaining-signs : (s t : Bool) (a b c : ℕ) → unlike s t ≡ true → b ≤ a → sum f s a t b c ≡ round f (s && ltb b a) (a - b) c
  unfolding sum
  remaining-signs true true a b c e h = absurd (false≢true e)
  remaining-signs true false a b c e h = rw (le-ltb a b h) refl
  remaining-signs false true a b c e h = rw (le-ltb a b h) refl
  remaining-signs false false a b c e h = absurd (false≢true e)

module _ (f : Format) {x : Float} {s : Bool} {a c : ℕ} (p : Is x s a c) (C : 0 < c) {y : Float} {t : Bool} {b d : ℕ} (q : Is y t b d) (D : 0 < d) where
  both-down : 0 < down p.exponent * down q.exponent
  both-down = mul-pos (down_pos p.exponent) (down_pos q.exponent)

  pub product-rounded : mul f x y ≡ round f (unlike s t) (a * b) (c * d)
  unfolding mul
  product-rounded =
      ap₂ (mul f) p.is q.is
      ∙ round_same f (unlike s t) _ _ (a * b) (c * d) both-down (mul-pos C D) (omega (arith, ap₂ (λ m n. m * n) p.value q.value))

  pub quotient-rounded : 0 < b → div f x y ≡ round f (unlike s t) (a * d) (c * b)
  unfolding div
  quotient-rounded h =
      ap₂ (div f) p.is q.is
      ∙ cond_no (eqb q.digits 0) _ _ (not_T (eqb q.digits 0) (λ t. has-digits q h (eqb→eq q.digits 0 t)))
      ∙ round_same f (unlike s t) _ _ (a * d) (c * b) (mul-pos (magnitude-above q h) (down_pos p.exponent)) (mul-pos C h)
      (omega (arith, ap (λ m. m * (b * down q.exponent)) p.value, ap (λ n. a * down p.exponent * n) q.value))

  -- the same magnitudes over one divisor
  crossed : p.digits * up p.exponent * down q.exponent * (c * d) ≡ a * d * (down p.exponent * down q.exponent)
  crossed = omega (arith, ap (λ m. m * (d * down q.exponent)) p.value)

  crossed-2 : q.digits * up q.exponent * down p.exponent * (c * d) ≡ b * c * (down p.exponent * down q.exponent)
  crossed-2 = omega (arith, ap (λ m. m * (c * down p.exponent)) q.value)

  pub sum-rounded : s ≡ t → add f x y ≡ round f s (a * d + b * c) (c * d)
  unfolding add
  sum-rounded e =
      ap₂ (add f) p.is (q.is ∙ ap (λ t. fin t q.digits q.exponent) (sym e)) ∙ same-signs f s _ _ _
      ∙ round_same f s _ _ (a * d + b * c) (c * d) both-down (mul-pos C D) (omega (arith, crossed, crossed-2))

  -- signs differ, and the second is the larger, by n
  pub difference-rounded : unlike s t ≡ true → (n : ℕ) → 0 < n → a * d + n ≡ b * c → add f x y ≡ round f t n (c * d)
  unfolding add
  difference-rounded e n h k =
      let A = p.digits * up p.exponent * down q.exponent in
      let B = q.digits * up q.exponent * down p.exponent in
      let l : A < B = lt_of_mul-lt-mul_right (c * d) (omega (arith, crossed, crossed-2, mul-pos h both-down, ap (λ z. z * (down p.exponent * down q.exponent)) k)) in
      ap₂ (add f) p.is q.is ∙ opposite-signs f s t A B _ e l
      ∙ round_same f t (B - A) _ n (c * d) both-down (mul-pos C D)
      (times-less B A (c * d) ∙ omega (arith, crossed, crossed-2, ap (λ z. z * (down p.exponent * down q.exponent)) k))

  -- signs differ, and the first is the larger, by n, or no smaller
  pub remainder-rounded : unlike s t ≡ true → (n : ℕ) → a * d ≡ b * c + n → add f x y ≡ round f (s && ltb 0 n) n (c * d)
  unfolding add
  remainder-rounded e n k =
      let A = p.digits * up p.exponent * down q.exponent in
      let B = q.digits * up q.exponent * down p.exponent in
      let m = down p.exponent * down q.exponent in
      let l : B ≤ A = le_of_mul-le-mul_right {k = c * d} (omega (arith, crossed, crossed-2, ap (λ z. z * m) k)) (mul-pos C D) in
      let less : (A - B) * (c * d) ≡ n * m = times-less A B (c * d) ∙ omega (arith, crossed, crossed-2, ap (λ z. z * m) k) in
      ap₂ (add f) p.is q.is ∙ remaining-signs f s t A B _ e l
      ∙ ap (λ b. round f (s && b) (A - B) m) (above-nothing n A B l less)
      ∙ round_same f (s && ltb 0 n) (A - B) _ n (c * d) both-down (mul-pos C D) less
    where
      above-nothing : (n A B : ℕ) → B ≤ A → (A - B) * (c * d) ≡ n * (down p.exponent * down q.exponent) → ltb B A ≡ ltb 0 n
      above-nothing zero A B l h =
          let z : A - B ≡ 0 = eq_of_mul-eq-mul_right (c * d) (mul-pos C D) (A - B) 0 (omega (arith, h)) in
          le-ltb B A (omega (arith, z))
      above-nothing (suc n) A B l h =
          let z : 0 < A - B = lt_of_mul-lt-mul_right (c * d) (omega (arith, h, both-down)) in
          lt-ltb B A (omega (arith, z)) ∙ sym (lt-ltb 0 (suc n) (omega arith))
