-- Straight-line forms of sums, differences and products with positive constants: worked out in floats they give, as a float, what they give in whole numbers,
-- if no intermediate is larger than what the format counts without a gap. No −0 arises.
use Rattle.algebra.specs.Prelude.{refl, sym, ap, ap₂, ◌∙◌, Bool, true, false, not, List, [], ℕ, zero, suc, arith, T, leb, ltb, lit<, get_or, ℤ, pos, negsuc, nat_abs, neg_ℤ}
use Rattle.std.proofs.Common.{le_trans, add-le-add, mul-le-mul_left, lt-ltb, leb→le, ltb→lt}
use Rattle.std.specs.Prelude.{map, Float, ◌≡◌, ◌∷◌, ◌+◌, ◌*◌, ◌^◌, ◌≤◌, ◌<◌, ◌+ℤ◌, ◌-ℤ◌, ◌*ℤ◌}
use Rattle.std.proofs.Math.IntN.{+ℤ_idr}
use Rattle.std.specs.Float.{Format}
use Rattle.std.specs.Float.Ieee.{prec, round, neg, add, sub, mul, of_int}
use Rattle.algebra.specs.Diff.{sub_cases}
use Rattle.algebra.specs.Order.{abs-add, abs-sub, abs-mul}
use Rattle.algebra.specs.Test.{both, both_l, both_r}
use Rattle.floats.specs.Fractions.{product-rounded, sum-rounded, difference-rounded, remainder-rounded}
use Rattle.floats.specs.Wholes.{Whole, negative, whole_of}

-- ---- one operation

module _ (f : Format) {x y : Float} where
  sum_of : (a b : ℤ) → Whole x (negative a) (nat_abs a) → Whole y (negative b) (nat_abs b) → add f x y ≡ of_int f (a +ℤ b)
  unfolding of_int
  sum_of (pos a) (pos b) p q =
      let n : a * 1 + b * 1 ≡ a + b = omega arith in
      sum-rounded f p (lit< tt) q (lit< tt) refl ∙ ap (λ n. round f false n 1) n
  sum_of (negsuc a) (negsuc b) p q =
      let n : suc a * 1 + suc b * 1 ≡ suc (suc (a + b)) = omega arith in
      sum-rounded f p (lit< tt) q (lit< tt) refl ∙ ap (λ n. round f true n 1) n
  sum_of (pos a) (negsuc b) p q =
      sub_cases a (suc b) (λ z. add f x y ≡ of_int f z)
      (λ n e. remainder-rounded f p (lit< tt) q (lit< tt) refl n (omega (arith, e)))
      (λ n e. difference-rounded f p (lit< tt) q (lit< tt) refl (suc n) (omega arith) (omega (arith, e)))
  sum_of (negsuc a) (pos b) p q =
      sub_cases b (suc a) (λ z. add f x y ≡ of_int f z) opposite
      (λ n e. remainder-rounded f p (lit< tt) q (lit< tt) refl (suc n) (omega (arith, e)) ∙ ap (λ b. round f b (suc n) 1) (lt-ltb 0 (suc n) (omega arith)))
    where
      opposite : (n : ℕ) → b ≡ suc a + n → add f x y ≡ of_int f (pos n)
      opposite zero e = remainder-rounded f p (lit< tt) q (lit< tt) refl 0 (omega (arith, e))
      opposite (suc n) e = difference-rounded f p (lit< tt) q (lit< tt) refl (suc n) (omega arith) (omega (arith, e))

  -- 0 − 0 is +0, as is a sum with −0
  unchanged : (a : ℤ) → Whole x (negative a) (nat_abs a) → Whole y true 0 → add f x y ≡ of_int f a
  unfolding of_int
  unchanged (pos a) p q = remainder-rounded f p (lit< tt) q (lit< tt) refl a (omega arith)
  unchanged (negsuc a) p q =
      let n : suc a * 1 + 0 * 1 ≡ suc a = omega arith in
      sum-rounded f p (lit< tt) q (lit< tt) refl ∙ ap (λ n. round f true n 1) n

negated : {y : Float} {s : Bool} {b : ℕ} → Whole y s b → Whole (neg y) (not s) b
unfolding neg
negated q = record { digits = q.digits; exponent = q.exponent; is = ap neg q.is; value = q.value }

pub difference-of : (f : Format) {x y : Float} (a b : ℤ) → Whole x (negative a) (nat_abs a) → Whole y (negative b) (nat_abs b) → sub f x y ≡ of_int f (a -ℤ b)
unfolding sub
difference-of f a (pos zero) p q = unchanged f a p (negated q) ∙ ap (of_int f) (sym (+ℤ_idr a))
difference-of f a (pos (suc b)) p q = sum_of f a (negsuc b) p (negated q)
difference-of f a (negsuc b) p q = sum_of f a (pos (suc b)) p (negated q)

pub product-of : (f : Format) {x y : Float} (n : ℕ) (a : ℤ) → 0 < n → Whole x false n → Whole y (negative a) (nat_abs a) → mul f x y ≡ of_int f (pos n *ℤ a)
unfolding of_int
product-of f n (pos a) h p q = product-rounded f p (lit< tt) q (lit< tt)
product-of f zero (negsuc a) h p q = absurd (omega arith)
product-of f (suc n) (negsuc a) h p q = product-rounded f p (lit< tt) q (lit< tt) ∙ sym (negative_of (suc n * suc a) (omega arith))
  where
    negative_of : (m : ℕ) → 0 < m → of_int f (neg_ℤ (pos m)) ≡ round f true m 1
    negative_of zero l = absurd (omega arith)
    negative_of (suc m) l = refl

-- ---- forms

pub data Form : Type 0 where
  var : ℕ → Form
  plus minus : Form → Form → Form
  times : ℕ → Form → Form

-- in whole numbers, and in floats
abbrev pub whole : Form → (ℕ → ℤ) → ℤ
whole (var i) σ = σ i
whole (plus a b) σ = whole a σ +ℤ whole b σ
whole (minus a b) σ = whole a σ -ℤ whole b σ
whole (times n a) σ = pos n *ℤ whole a σ

abbrev pub float : Format → Form → (ℕ → Float) → Float
float f (var i) ρ = ρ i
float f (plus a b) ρ = add f (float f a ρ) (float f b ρ)
float f (minus a b) ρ = sub f (float f a ρ) (float f b ρ)
float f (times n a) ρ = mul f (of_int f (pos n)) (float f a ρ)

-- a bound, from those of the variables; and the test that no number on the way is too large
abbrev pub most : Form → (ℕ → ℕ) → ℕ
most (var i) β = β i
most (plus a b) β = most a β + most b β
most (minus a b) β = most a β + most b β
most (times n a) β = n * most a β

abbrev pub counts : Format → Form → (ℕ → ℕ) → Bool
counts f (var i) β = both (leb (β i) (2 ^ prec f)) true
counts f (plus a b) β = both (leb (most a β + most b β) (2 ^ prec f)) (both (counts f a β) (counts f b β))
counts f (minus a b) β = both (leb (most a β + most b β) (2 ^ prec f)) (both (counts f a β) (counts f b β))
counts f (times n a) β = both (leb (n * most a β) (2 ^ prec f)) (both (both (ltb 0 n) (leb n (2 ^ prec f))) (counts f a β))

module _ (f : Format) (σ : ℕ → ℤ) (ρ : ℕ → Float) (β : ℕ → ℕ) (same : (i : ℕ) → ρ i ≡ of_int f (σ i)) (bounded : (i : ℕ) → nat_abs (σ i) ≤ β i) where
  pub within : (e : Form) → nat_abs (whole e σ) ≤ most e β
  within (var i) = bounded i
  within (plus a b) = le_trans (abs-add (whole a σ) (whole b σ)) (add-le-add (within a) (within b))
  within (minus a b) = le_trans (abs-sub (whole a σ) (whole b σ)) (add-le-add (within a) (within b))
  within (times n a) = rw (abs-mul (pos n) (whole a σ)) (mul-le-mul_left n (within a))

  counted : (e : Form) → T (counts f e β) → nat_abs (whole e σ) ≤ 2 ^ prec f
  counted e t = le_trans (within e) (go e t)
    where
      go : (e : Form) → T (counts f e β) → most e β ≤ 2 ^ prec f
      go (var i) t = leb→le (β i) (2 ^ prec f) (both_l (leb (β i) (2 ^ prec f)) true t)
      go (plus a b) t = leb→le (most a β + most b β) (2 ^ prec f) (both_l (leb (most a β + most b β) (2 ^ prec f)) (both (counts f a β) (counts f b β)) t)
      go (minus a b) t = leb→le (most a β + most b β) (2 ^ prec f) (both_l (leb (most a β + most b β) (2 ^ prec f)) (both (counts f a β) (counts f b β)) t)
      go (times n a) t = leb→le (n * most a β) (2 ^ prec f) (both_l (leb (n * most a β) (2 ^ prec f)) (both (both (ltb 0 n) (leb n (2 ^ prec f))) (counts f a β)) t)

  pub float-whole : (e : Form) → T (counts f e β) → float f e ρ ≡ of_int f (whole e σ)
  float-whole (var i) t = same i
  float-whole (plus a b) t =
      let u = both_r (leb (most a β + most b β) (2 ^ prec f)) (both (counts f a β) (counts f b β)) t in
      let v = both_l (counts f a β) (counts f b β) u in
      let w = both_r (counts f a β) (counts f b β) u in
      ap₂ (add f) (float-whole a v) (float-whole b w) ∙ sum_of f (whole a σ) (whole b σ) (whole_of f (whole a σ) (counted a v)) (whole_of f (whole b σ) (counted b w))
  float-whole (minus a b) t =
      let u = both_r (leb (most a β + most b β) (2 ^ prec f)) (both (counts f a β) (counts f b β)) t in
      let v = both_l (counts f a β) (counts f b β) u in
      let w = both_r (counts f a β) (counts f b β) u in
      ap₂ (sub f) (float-whole a v) (float-whole b w) ∙ difference-of f (whole a σ) (whole b σ) (whole_of f (whole a σ) (counted a v)) (whole_of f (whole b σ) (counted b w))
  float-whole (times n a) t =
      let u = both_r (leb (n * most a β) (2 ^ prec f)) (both (both (ltb 0 n) (leb n (2 ^ prec f))) (counts f a β)) t in
      let v = both_l (both (ltb 0 n) (leb n (2 ^ prec f))) (counts f a β) u in
      let w = both_r (both (ltb 0 n) (leb n (2 ^ prec f))) (counts f a β) u in
      ap (mul f (of_int f (pos n))) (float-whole a w)
      ∙ product-of f n (whole a σ) (ltb→lt 0 n (both_l (ltb 0 n) (leb n (2 ^ prec f)) v)) (whole_of f (pos n) (leb→le n (2 ^ prec f) (both_r (ltb 0 n) (leb n (2 ^ prec f)) v))) (whole_of f (whole a σ) (counted a w))

-- ---- several forms of the numbers in a list; a variable past its end is 0

abbrev pub wholes : List Form → List ℤ → List ℤ
wholes [] xs = []
wholes (e ∷ es) xs = whole e (λ i. get_or xs i (pos 0)) ∷ wholes es xs

abbrev pub floats : Format → List Form → List ℤ → List Float
floats f [] xs = []
floats f (e ∷ es) xs = float f e (λ i. of_int f (get_or xs i (pos 0))) ∷ floats f es xs

-- the tests, from a bound of each number: none on the way is too large, and each result is at most h
abbrev pub all_count : Format → List Form → ℕ → Bool
all_count f [] m = true
all_count f (e ∷ es) m = both (counts f e (λ i. m)) (all_count f es m)

abbrev pub all_most : ℕ → List Form → ℕ → Bool
all_most h [] m = true
all_most h (e ∷ es) m = both (leb (most e (λ i. m)) h) (all_most h es m)

module _ (f : Format) {m : ℕ} (xs : List ℤ) (bounded : (i : ℕ) → nat_abs (get_or xs i (pos 0)) ≤ m) where
  pub floats-wholes : (es : List Form) → T (all_count f es m) → floats f es xs ≡ map (of_int f) (wholes es xs)
  floats-wholes [] t = refl
  floats-wholes (e ∷ es) t =
      let u = both_l (counts f e (λ i. m)) (all_count f es m) t in
      let w = both_r (counts f e (λ i. m)) (all_count f es m) t in
      ap₂ ◌∷◌ (float-whole f (λ i. get_or xs i (pos 0)) (λ i. of_int f (get_or xs i (pos 0))) (λ i. m) (λ i. refl) bounded e u) (floats-wholes es w)

  pub wholes-most : {h : ℕ} (es : List Form) → T (all_most h es m) → (i : ℕ) → nat_abs (get_or (wholes es xs) i (pos 0)) ≤ h
  wholes-most {h} [] t i = omega arith
  wholes-most {h} (e ∷ es) t zero =
      le_trans (within f (λ i. get_or xs i (pos 0)) (λ i. of_int f (get_or xs i (pos 0))) (λ i. m) (λ i. refl) bounded e)
      (leb→le (most e (λ i. m)) h (both_l (leb (most e (λ i. m)) h) (all_most h es m) t))
  wholes-most {h} (e ∷ es) t (suc i) = wholes-most es (both_r (leb (most e (λ i. m)) h) (all_most h es m) t) i
