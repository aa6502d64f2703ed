-- Several results of straight-line code at once: that they equal ring expressions, and a bound of them all, each by one computed test.
use Rattle.algebra.specs.Prelude.{refl, ap₂, ◌∙◌, Bool, true, false, List, [], get_or, ℤ, pos, nat_abs}
use Rattle.std.specs.Prelude.{ℕ, zero, suc, ◌≤◌, T, leb, ◌≡◌, ◌∷◌, ◌+ℤ◌, ◌-ℤ◌, ◌*ℤ◌}
use Rattle.std.proofs.Common.{zero-le, le_trans, leb→le}
use Rattle.algebra.specs.Test.{both, both_l, both_r}
use Rattle.algebra.specs.Ring.{Expr, var, con, ◌⊞◌, ◌⊟◌, ◌⊠◌, nth, eval, norm, zero_p, ring}
use Rattle.algebra.specs.Code.{Code, par, loc, lit, add, sub, mul, shr, to, val, den, bnd, ok, nth_n, Bounded, val-den, bnd-sound}

-- ---- lists of expressions

abbrev pub evals : List Expr → (ℕ → ℤ) → List ℤ
evals [] ρ = []
evals (e ∷ es) ρ = eval e ρ ∷ evals es ρ

-- the two lists agree place by place
abbrev pub same : List Expr → List Expr → Bool
same [] [] = true
same [] (r ∷ rs) = false
same (l ∷ ls) [] = false
same (l ∷ ls) (r ∷ rs) = both (zero_p (norm (l ⊟ r))) (same ls rs)

pub rings : (xs : List ℤ) (ls rs : List Expr) → T (same ls rs) → evals ls (nth xs) ≡ evals rs (nth xs)
rings xs [] [] t = refl
rings xs [] (r ∷ rs) t = absurd t
rings xs (l ∷ ls) [] t = absurd t
rings xs (l ∷ ls) (r ∷ rs) t =
    ap₂ ◌∷◌ (ring xs l r (both_l (zero_p (norm (l ⊟ r))) (same ls rs) t)) (rings xs ls rs (both_r (zero_p (norm (l ⊟ r))) (same ls rs) t))

-- f 0 + .. + f (n − 1)
abbrev pub sum_e : ℕ → (ℕ → Expr) → Expr
sum_e zero f = con (pos 0)
sum_e (suc n) f = sum_e n f ⊞ f n

-- ---- code as an expression

-- code without shifts
abbrev pub plain : {ρ : ℕ → ℤ} → Code ρ → Bool
plain (par w i h) = true
plain (loc i) = true
plain (lit c) = true
plain (add w a b) = both (plain a) (plain b)
plain (sub w a b) = both (plain a) (plain b)
plain (mul w a b) = both (plain a) (plain b)
plain (shr w a m) = false
plain (to w a) = plain a

abbrev pub form : {ρ : ℕ → ℤ} → Code ρ → Expr
form (par w i h) = var i
form (loc i) = var i
form (lit c) = con c
form (add w a b) = form a ⊞ form b
form (sub w a b) = form a ⊟ form b
form (mul w a b) = form a ⊠ form b
form (shr w a m) = con (pos 0)
form (to w a) = form a

form-den : {ρ : ℕ → ℤ} (c : Code ρ) → T (plain c) → den c ≡ eval (form c) ρ
form-den (par w i h) t = refl
form-den (loc i) t = refl
form-den (lit c) t = refl
form-den (add w a b) t = ap₂ ◌+ℤ◌ (form-den a (both_l (plain a) (plain b) t)) (form-den b (both_r (plain a) (plain b) t))
form-den (sub w a b) t = ap₂ ◌-ℤ◌ (form-den a (both_l (plain a) (plain b) t)) (form-den b (both_r (plain a) (plain b) t))
form-den (mul w a b) t = ap₂ ◌*ℤ◌ (form-den a (both_l (plain a) (plain b) t)) (form-den b (both_r (plain a) (plain b) t))
form-den (shr w a m) t = absurd t
form-den (to w a) t = form-den a t

-- ---- lists of code

abbrev pub vals : {ρ : ℕ → ℤ} → List (Code ρ) → List ℤ
vals [] = []
vals (c ∷ cs) = val c ∷ vals cs

abbrev pub forms : {ρ : ℕ → ℤ} → List (Code ρ) → List Expr
forms [] = []
forms (c ∷ cs) = form c ∷ forms cs

-- each step fits its width, and each result is at most m
abbrev pub all_most : {ρ : ℕ → ℤ} → ℕ → List (Code ρ) → (ℕ → ℕ) → Bool
all_most m [] β = true
all_most m (c ∷ cs) β = both (both (ok c β) (leb (bnd c β) m)) (all_most m cs β)

abbrev pub all_plain : {ρ : ℕ → ℤ} → List (Code ρ) → (ℕ → ℕ) → Bool
all_plain [] β = true
all_plain (c ∷ cs) β = both (both (ok c β) (plain c)) (all_plain cs β)

module _ (xs : List ℤ) (bs : List ℕ) (h : Bounded xs bs) where
  pub vals-most : (m : ℕ) (cs : List (Code (nth xs))) → T (all_most m cs (nth_n bs)) → (i : ℕ) → nat_abs (get_or (vals cs) i (pos 0)) ≤ m
  vals-most m [] t i = zero-le
  vals-most m (c ∷ cs) t zero =
      let s = both_l (both (ok c (nth_n bs)) (leb (bnd c (nth_n bs)) m)) (all_most m cs (nth_n bs)) t in
      rw (val-den xs bs h c (both_l (ok c (nth_n bs)) (leb (bnd c (nth_n bs)) m) s))
      (le_trans (bnd-sound xs bs h c) (leb→le (bnd c (nth_n bs)) m (both_r (ok c (nth_n bs)) (leb (bnd c (nth_n bs)) m) s)))
  vals-most m (c ∷ cs) t (suc i) =
      vals-most m cs (both_r (both (ok c (nth_n bs)) (leb (bnd c (nth_n bs)) m)) (all_most m cs (nth_n bs)) t) i

  vals-forms : (cs : List (Code (nth xs))) → T (all_plain cs (nth_n bs)) → vals cs ≡ evals (forms cs) (nth xs)
  vals-forms [] t = refl
  vals-forms (c ∷ cs) t =
      let s = both_l (both (ok c (nth_n bs)) (plain c)) (all_plain cs (nth_n bs)) t in
      ap₂ ◌∷◌ (val-den xs bs h c (both_l (ok c (nth_n bs)) (plain c) s) ∙ form-den c (both_r (ok c (nth_n bs)) (plain c) s))
      (vals-forms cs (both_r (both (ok c (nth_n bs)) (plain c)) (all_plain cs (nth_n bs)) t))

  -- what the codes compute, as expressions
  pub vals_are : (cs : List (Code (nth xs))) (es : List Expr) → T (all_plain cs (nth_n bs)) → T (same (forms cs) es) → vals cs ≡ evals es (nth xs)
  vals_are cs es t u = vals-forms cs t ∙ rings xs (forms cs) es u
