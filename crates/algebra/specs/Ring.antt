-- A normaliser for commutative-ring expressions over ℤ, with its soundness. `ring ρ l r tt` proves `⟦ l ⟧ ρ ≡ ⟦ r ⟧ ρ`.
-- A polynomial is `cst c`, or `hor p q` for p·x₀ + q, where q is over the variables from x₁ on (x₁ is its x₀).
use Rattle.algebra.specs.Prelude.{refl, sym, ap, ap₂, ◌∙◌, Bool, true, false, List, [], ℕ, zero, suc, T}
use Rattle.std.specs.Prelude.{ℤ, pos, negsuc, neg_ℤ, ◌+ℤ◌, ◌-ℤ◌, ◌*ℤ◌, ◌≡◌, ◌∷◌}
use Rattle.std.proofs.Math.IntN.{+ℤ_assoc, +ℤ_comm, *ℤ_comm, +ℤ_idl, +ℤ_idr, zero-*ℤ, *ℤ-one, one}
use Rattle.algebra.specs.Test.{both, both_l, both_r}
use Rattle.algebra.specs.Laws.{*ℤ-assoc, *ℤ-distl, *ℤ-distr, neg-*ℤ, +ℤ-swap, +ℤ-left, *ℤ-swapr, eq-of-sub-zero}

infixl 6 ◌⊞◌ ◌⊟◌
infixl 7 ◌⊠◌
infix 8 ⊖◌ #◌
pub data Expr : Type 0 where
  var : ℕ → Expr
  con : ℤ → Expr
  ◌⊞◌ : Expr → Expr → Expr
  ◌⊟◌ : Expr → Expr → Expr
  ◌⊠◌ : Expr → Expr → Expr
  ⊖◌ : Expr → Expr

-- a numeral
abbrev pub #◌ : ℕ → Expr
# n = con (pos n)

-- the environment: the i-th of a list, and 0 past its end
abbrev pub nth : List ℤ → ℕ → ℤ
nth [] i = pos 0
nth (x ∷ xs) zero = x
nth (x ∷ xs) (suc i) = nth xs i

abbrev pub eval : Expr → (ℕ → ℤ) → ℤ
eval (var i) ρ = ρ i
eval (con c) ρ = c
eval (a ⊞ b) ρ = eval a ρ +ℤ eval b ρ
eval (a ⊟ b) ρ = eval a ρ -ℤ eval b ρ
eval (a ⊠ b) ρ = eval a ρ *ℤ eval b ρ
eval (⊖ a) ρ = neg_ℤ (eval a ρ)

-- ---- polynomials

pub data Poly : Type 0 where
  cst : ℤ → Poly
  hor : Poly → Poly → Poly

abbrev pub eval_p : Poly → (ℕ → ℤ) → ℤ
eval_p (cst c) ρ = c
eval_p (hor p q) ρ = eval_p p ρ *ℤ ρ zero +ℤ eval_p q (λ i. ρ (suc i))

abbrev pub is_z : ℤ → Bool
is_z (pos zero) = true
is_z (pos (suc n)) = false
is_z (negsuc n) = false

abbrev pub is_c0 : Poly → Bool
is_c0 (cst c) = is_z c
is_c0 (hor p q) = false

-- p·x₀ + q, kept short where p is 0
abbrev pub lift : Poly → Poly
lift (cst c) = cst c
lift (hor p q) = hor (cst (pos 0)) (hor p q)

abbrev pub hr_b : Bool → Poly → Poly → Poly
hr_b true p q = lift q
hr_b false p q = hor p q

abbrev pub hr : Poly → Poly → Poly
hr p q = hr_b (is_c0 p) p q

abbrev pub add_c : ℤ → Poly → Poly
add_c a (cst b) = cst (a +ℤ b)
add_c a (hor p q) = hor p (add_c a q)

abbrev pub add_p : Poly → Poly → Poly
add_p (cst a) r = add_c a r
add_p (hor p q) (cst b) = hor p (add_c b q)
add_p (hor p q) (hor p' q') = hr (add_p p p') (add_p q q')

abbrev pub scale_n : ℤ → Poly → Poly
scale_n a (cst b) = cst (a *ℤ b)
scale_n a (hor p q) = hor (scale_n a p) (scale_n a q)

abbrev pub scale_b : Bool → ℤ → Poly → Poly
scale_b true a r = cst (pos 0)
scale_b false a r = scale_n a r

abbrev pub scale : ℤ → Poly → Poly
scale a r = scale_b (is_z a) a r

-- r times a polynomial over the variables from x₁ on, which `f` multiplies by
abbrev pub low : (Poly → Poly) → Poly → Poly
low f (cst c) = lift (f (cst c))
low f (hor p q) = hr (low f p) (f q)

abbrev pub mul_p : Poly → Poly → Poly
mul_p (cst a) r = scale a r
mul_p (hor p q) r = add_p (hr (mul_p p r) (cst (pos 0))) (low (mul_p q) r)

abbrev pub var_p : ℕ → Poly
var_p zero = hor (cst (pos 1)) (cst (pos 0))
var_p (suc i) = hor (cst (pos 0)) (var_p i)

abbrev pub norm : Expr → Poly
norm (var i) = var_p i
norm (con c) = cst c
norm (a ⊞ b) = add_p (norm a) (norm b)
norm (a ⊟ b) = add_p (norm a) (scale (negsuc 0) (norm b))
norm (a ⊠ b) = mul_p (norm a) (norm b)
norm (⊖ a) = scale (negsuc 0) (norm a)

abbrev pub zero_p : Poly → Bool
zero_p (cst c) = is_z c
zero_p (hor p q) = both (zero_p p) (zero_p q)

-- ---- soundness

is_z-zero : (c : ℤ) → T (is_z c) → c ≡ pos 0
is_z-zero (pos zero) t = refl
is_z-zero (pos (suc n)) t = absurd t
is_z-zero (negsuc n) t = absurd t

is_c0-zero : (p : Poly) (ρ : ℕ → ℤ) → T (is_c0 p) → eval_p p ρ ≡ pos 0
is_c0-zero (cst c) ρ t = is_z-zero c t
is_c0-zero (hor p q) ρ t = absurd t

lift-sound : (q : Poly) (ρ : ℕ → ℤ) → eval_p (lift q) ρ ≡ eval_p q (λ i. ρ (suc i))
lift-sound (cst c) ρ = refl
lift-sound (hor p q) ρ =
    ap (λ t. t +ℤ eval_p (hor p q) (λ i. ρ (suc i))) (zero-*ℤ (ρ zero)) ∙ +ℤ_idl (eval_p (hor p q) (λ i. ρ (suc i)))

hr_b-sound : (b : Bool) (p q : Poly) (ρ : ℕ → ℤ) → (T b → eval_p p ρ ≡ pos 0) → eval_p (hr_b b p q) ρ ≡ eval_p p ρ *ℤ ρ zero +ℤ eval_p q (λ i. ρ (suc i))
hr_b-sound true p q ρ h =
    lift-sound q ρ
    ∙ sym (ap (λ t. t *ℤ ρ zero +ℤ eval_p q (λ i. ρ (suc i))) (h tt)
    ∙ ap (λ t. t +ℤ eval_p q (λ i. ρ (suc i))) (zero-*ℤ (ρ zero))
    ∙ +ℤ_idl (eval_p q (λ i. ρ (suc i))))
hr_b-sound false p q ρ h = refl

hr-sound : (p q : Poly) (ρ : ℕ → ℤ) → eval_p (hr p q) ρ ≡ eval_p p ρ *ℤ ρ zero +ℤ eval_p q (λ i. ρ (suc i))
hr-sound p q ρ = hr_b-sound (is_c0 p) p q ρ (is_c0-zero p ρ)

add_c-sound : (a : ℤ) (r : Poly) (ρ : ℕ → ℤ) → eval_p (add_c a r) ρ ≡ a +ℤ eval_p r ρ
add_c-sound a (cst b) ρ = refl
add_c-sound a (hor p q) ρ =
    ap (λ t. eval_p p ρ *ℤ ρ zero +ℤ t) (add_c-sound a q (λ i. ρ (suc i)))
    ∙ +ℤ-left (eval_p p ρ *ℤ ρ zero) a (eval_p q (λ i. ρ (suc i)))

add_p-sound : (p r : Poly) (ρ : ℕ → ℤ) → eval_p (add_p p r) ρ ≡ eval_p p ρ +ℤ eval_p r ρ
add_p-sound (cst a) r ρ = add_c-sound a r ρ
add_p-sound (hor p q) (cst b) ρ =
    ap (λ t. eval_p p ρ *ℤ ρ zero +ℤ t) (add_c-sound b q (λ i. ρ (suc i)) ∙ +ℤ_comm b (eval_p q (λ i. ρ (suc i))))
    ∙ sym (+ℤ_assoc (eval_p p ρ *ℤ ρ zero) (eval_p q (λ i. ρ (suc i))) b)
add_p-sound (hor p q) (hor p' q') ρ =
    hr-sound (add_p p p') (add_p q q') ρ
    ∙ ap₂ (λ s t. s *ℤ ρ zero +ℤ t) (add_p-sound p p' ρ) (add_p-sound q q' (λ i. ρ (suc i)))
    ∙ ap (λ t. t +ℤ (eval_p q (λ i. ρ (suc i)) +ℤ eval_p q' (λ i. ρ (suc i)))) (*ℤ-distr (eval_p p ρ) (eval_p p' ρ) (ρ zero))
    ∙ +ℤ-swap (eval_p p ρ *ℤ ρ zero) (eval_p p' ρ *ℤ ρ zero) (eval_p q (λ i. ρ (suc i))) (eval_p q' (λ i. ρ (suc i)))

scale_n-sound : (a : ℤ) (r : Poly) (ρ : ℕ → ℤ) → eval_p (scale_n a r) ρ ≡ a *ℤ eval_p r ρ
scale_n-sound a (cst b) ρ = refl
scale_n-sound a (hor p q) ρ =
    ap₂ (λ s t. s *ℤ ρ zero +ℤ t) (scale_n-sound a p ρ) (scale_n-sound a q (λ i. ρ (suc i)))
    ∙ ap (λ t. t +ℤ a *ℤ eval_p q (λ i. ρ (suc i))) (*ℤ-assoc a (eval_p p ρ) (ρ zero))
    ∙ sym (*ℤ-distl a (eval_p p ρ *ℤ ρ zero) (eval_p q (λ i. ρ (suc i))))

scale_b-sound : (b : Bool) (a : ℤ) (r : Poly) (ρ : ℕ → ℤ) → (T b → a ≡ pos 0) → eval_p (scale_b b a r) ρ ≡ a *ℤ eval_p r ρ
scale_b-sound true a r ρ h = sym (ap (λ t. t *ℤ eval_p r ρ) (h tt) ∙ zero-*ℤ (eval_p r ρ))
scale_b-sound false a r ρ h = scale_n-sound a r ρ

scale-sound : (a : ℤ) (r : Poly) (ρ : ℕ → ℤ) → eval_p (scale a r) ρ ≡ a *ℤ eval_p r ρ
scale-sound a r ρ = scale_b-sound (is_z a) a r ρ (is_z-zero a)

low-sound : (f : Poly → Poly) (ρ : ℕ → ℤ) (m : ℤ) → ((r : Poly) → eval_p (f r) (λ i. ρ (suc i)) ≡ m *ℤ eval_p r (λ i. ρ (suc i))) → (r : Poly) → eval_p (low f r) ρ ≡ m *ℤ eval_p r ρ
low-sound f ρ m h (cst c) = lift-sound (f (cst c)) ρ ∙ h (cst c)
low-sound f ρ m h (hor p q) =
    hr-sound (low f p) (f q) ρ
    ∙ ap₂ (λ s t. s *ℤ ρ zero +ℤ t) (low-sound f ρ m h p) (h q)
    ∙ ap (λ t. t +ℤ m *ℤ eval_p q (λ i. ρ (suc i))) (*ℤ-assoc m (eval_p p ρ) (ρ zero))
    ∙ sym (*ℤ-distl m (eval_p p ρ *ℤ ρ zero) (eval_p q (λ i. ρ (suc i))))

mul_p-sound : (p r : Poly) (ρ : ℕ → ℤ) → eval_p (mul_p p r) ρ ≡ eval_p p ρ *ℤ eval_p r ρ
mul_p-sound (cst a) r ρ = scale-sound a r ρ
mul_p-sound (hor p q) r ρ =
    add_p-sound (hr (mul_p p r) (cst (pos 0))) (low (mul_p q) r) ρ
    ∙ ap₂ ◌+ℤ◌
    (hr-sound (mul_p p r) (cst (pos 0)) ρ
    ∙ +ℤ_idr (eval_p (mul_p p r) ρ *ℤ ρ zero)
    ∙ ap (λ t. t *ℤ ρ zero) (mul_p-sound p r ρ)
    ∙ *ℤ-swapr (eval_p p ρ) (eval_p r ρ) (ρ zero))
    (low-sound (mul_p q) ρ (eval_p q (λ i. ρ (suc i))) (λ s. mul_p-sound q s (λ i. ρ (suc i))) r)
    ∙ sym (*ℤ-distr (eval_p p ρ *ℤ ρ zero) (eval_p q (λ i. ρ (suc i))) (eval_p r ρ))

one-*ℤ : (x : ℤ) → pos 1 *ℤ x ≡ x
unfolding one
one-*ℤ x = *ℤ_comm (pos 1) x ∙ *ℤ-one x

minus_one : (x : ℤ) → negsuc 0 *ℤ x ≡ neg_ℤ x
minus_one x = neg-*ℤ (pos 1) x ∙ ap neg_ℤ (one-*ℤ x)

var_p-sound : (i : ℕ) (ρ : ℕ → ℤ) → eval_p (var_p i) ρ ≡ ρ i
var_p-sound zero ρ = +ℤ_idr (pos 1 *ℤ ρ zero) ∙ one-*ℤ (ρ zero)
var_p-sound (suc i) ρ =
    ap (λ t. t +ℤ eval_p (var_p i) (λ i. ρ (suc i))) (zero-*ℤ (ρ zero)) ∙ +ℤ_idl (eval_p (var_p i) (λ i. ρ (suc i))) ∙ var_p-sound i (λ i. ρ (suc i))

pub norm-sound : (e : Expr) (ρ : ℕ → ℤ) → eval_p (norm e) ρ ≡ eval e ρ
norm-sound (var i) ρ = var_p-sound i ρ
norm-sound (con c) ρ = refl
norm-sound (a ⊞ b) ρ = add_p-sound (norm a) (norm b) ρ ∙ ap₂ ◌+ℤ◌ (norm-sound a ρ) (norm-sound b ρ)
norm-sound (a ⊟ b) ρ =
    add_p-sound (norm a) (scale (negsuc 0) (norm b)) ρ
    ∙ ap₂ ◌+ℤ◌ (norm-sound a ρ) (scale-sound (negsuc 0) (norm b) ρ ∙ minus_one (eval_p (norm b) ρ) ∙ ap neg_ℤ (norm-sound b ρ))
norm-sound (a ⊠ b) ρ = mul_p-sound (norm a) (norm b) ρ ∙ ap₂ ◌*ℤ◌ (norm-sound a ρ) (norm-sound b ρ)
norm-sound (⊖ a) ρ = scale-sound (negsuc 0) (norm a) ρ ∙ minus_one (eval_p (norm a) ρ) ∙ ap neg_ℤ (norm-sound a ρ)

zero_p-sound : (p : Poly) (ρ : ℕ → ℤ) → T (zero_p p) → eval_p p ρ ≡ pos 0
zero_p-sound (cst c) ρ t = is_z-zero c t
zero_p-sound (hor p q) ρ t =
    ap₂ (λ s t. s *ℤ ρ zero +ℤ t) (zero_p-sound p ρ (both_l (zero_p p) (zero_p q) t)) (zero_p-sound q (λ i. ρ (suc i)) (both_r (zero_p p) (zero_p q) t))
    ∙ +ℤ_idr (pos 0 *ℤ ρ zero) ∙ zero-*ℤ (ρ zero)

-- the two sides agree where their difference has no coefficient but 0
pub ring : (xs : List ℤ) (l r : Expr) → T (zero_p (norm (l ⊟ r))) → eval l (nth xs) ≡ eval r (nth xs)
ring xs l r t =
    eq-of-sub-zero (eval l (nth xs)) (eval r (nth xs))
    (sym (norm-sound (l ⊟ r) (nth xs)) ∙ zero_p-sound (norm (l ⊟ r)) (nth xs) t)
