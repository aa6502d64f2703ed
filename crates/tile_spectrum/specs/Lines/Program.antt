-- Straight-line code on the numbers of a line, written once: values with names, one after the other, and the results. Computed from it are its steps, in the order
-- in which the code takes them and each at its width, what the results are in whole numbers, and their forms in double.
use Rattle.std.specs.Prelude.{◌≡◌, ◌∷◌, ◌^◌}
use Rattle.tile_spectrum.specs.Lines.Prelude.{Bool, true, List, [], ℕ, suc, T, ltb, ℤ, pos, Width, w16, w32, SFits, hbits, Expr, nth}
use Rattle.algebra.specs.Test.{both, both_l, both_r}
use Rattle.algebra.specs.Fit.{sfits-abs}
use Rattle.algebra.specs.Code.{Code, par, lit, add, sub, mul, to, Bounded, bnd, ok, raw, nth_n, fits}
use Rattle.algebra.specs.Forms.{vals, evals, forms, same, all_plain, vals_are}
use Rattle.floats.specs.Kernels.{Form, var, plus, times}
use Rattle.floats.specs.Kernels as kernels
use Rattle.tile_spectrum.specs.Lines.Lines.{LineMost}
use Rattle.tile_spectrum.specs.Lines.Held.{nth-is}

-- ---- programs

infixl 70 ◌⊕◌ ◌⊖◌
infixl 80 ◌⊗◌
pub data Term : Type 0 where
  -- number i of the line, and a value that has a name
  arg : ℕ → Term
  named : Term → Term
  -- sum, difference, 0 − a and a multiple; and `a as i32`, which double does without
  ◌⊕◌ : Term → Term → Term
  ◌⊖◌ : Term → Term → Term
  minus : Term → Term
  ◌⊗◌ : ℕ → Term → Term
  wide : Term → Term

-- the values that have names, in turn, and the results
pub record Program : Type 0 where
  pub values : List Term
  pub results : List Term

-- as `do` writes it: `a ← t` is `let a = t;`
abbrev pub ◌>>=◌ : Term → (Term → Program) → Program
◌>>=◌ t rest =
    let p = rest (named t) in
    record { values = t ∷ p.values; results = p.results }

abbrev pub give : List Term → Program
give ts = record { values = []; results = ts }

-- ---- its steps

-- those of a term, before others: its parts' first, but for a value with a name, which stands already
abbrev own : Term → List Term → List Term
own (arg i) rest = rest
own (named a) rest = rest
own (a ⊕ b) rest = own a (own b ((a ⊕ b) ∷ rest))
own (a ⊖ b) rest = own a (own b ((a ⊖ b) ∷ rest))
own (minus a) rest = own a (minus a ∷ rest)
own (n ⊗ a) rest = own a ((n ⊗ a) ∷ rest)
own (wide a) rest = own a (wide a ∷ rest)

abbrev owns : List Term → List Term → List Term
owns [] rest = rest
owns (t ∷ ts) rest = own t (owns ts rest)

abbrev steps : Program → List Term
steps p = owns p.values (owns p.results [])

-- ---- in whole numbers

-- the line's numbers are of 16 bits, and an operation has the width of its last part
abbrev width : Term → Width
width (arg i) = w16
width (named a) = width a
width (a ⊕ b) = width b
width (a ⊖ b) = width b
width (minus a) = width a
width (n ⊗ a) = width a
width (wide a) = w32

abbrev code : {ρ : ℕ → ℤ} → ((i : ℕ) → SFits w16 (ρ i)) → Term → Code ρ
code f (arg i) = par w16 i (f i)
code f (named a) = code f a
code f (a ⊕ b) = add (width b) (code f a) (code f b)
code f (a ⊖ b) = sub (width b) (code f a) (code f b)
code f (minus a) = sub (width a) (lit (pos 0)) (code f a)
code f (n ⊗ a) = mul (width a) (lit (pos n)) (code f a)
code f (wide a) = to w32 (code f a)

abbrev codes : {ρ : ℕ → ℤ} → ((i : ℕ) → SFits w16 (ρ i)) → List Term → List (Code ρ)
codes f [] = []
codes f (t ∷ ts) = code f t ∷ codes f ts

-- b for each number
abbrev bounds : ℕ → List ℤ → List ℕ
bounds b [] = []
bounds b (z ∷ x) = b ∷ bounds b x

line-bounded : {b : ℕ} (x : List ℤ) → LineMost b x → Bounded x (bounds b x)
line-bounded [] m = tt
line-bounded (z ∷ x) m = (m.at 0, line-bounded x (record { at = λ i. m.at (suc i) }))

-- R, once it is given P of each term in turn
abbrev Given {ℓ} : (Term → Type 0) → List Term → Type ℓ → Type ℓ
Given P [] R = R
Given P (t ∷ ts) R = P t → Given P ts R

-- code from a state s on, of which the line is x s, each number of at most b
module _ {S : Type 0} {b : ℕ} (x : S → List ℤ) (m : (s : S) → LineMost b (x s)) (l : T (ltb b (2 ^ hbits w16))) where
  pub number_fits : (s : S) (i : ℕ) → SFits w16 (nth (x s) i)
  number_fits s i = sfits-abs (nth (x s) i) b (rw (nth-is (x s) i) ((m s).at i)) l

  abbrev code_at : (s : S) → Term → Code (nth (x s))
  code_at s = code (number_fits s)

  abbrev Fit : Term → Type 0
  Fit t = (s : S) → SFits (width t) (raw (code_at s t))

  abbrev fit : (s : S) → Term → Bool
  fit s t = both (ok (code_at s t) (nth_n (bounds b (x s)))) (ltb (bnd (code_at s t) (nth_n (bounds b (x s)))) (2 ^ hbits (width t)))

  abbrev all_fit : (s : S) → List Term → Bool
  all_fit s [] = true
  all_fit s (t ∷ ts) = both (fit s t) (all_fit s ts)

  terms-fit {ℓ} : (ts : List Term) {R : Type ℓ} → ((s : S) → T (all_fit s ts)) → Given Fit ts R → R
  terms-fit [] t g = g
  terms-fit (c ∷ cs) t g =
      terms-fit cs (λ s. both_r (fit s c) (all_fit s cs) (t s))
      (g (λ s. fits (x s) (bounds b (x s)) (line-bounded (x s) (m s)) (width c) (code_at s c) (both_l (fit s c) (all_fit s cs) (t s))))

  -- each step fits, by one computed test
  pub steps-fit {ℓ} : (p : Program) {R : Type ℓ} → ((s : S) → T (all_fit s (steps p))) → Given Fit (steps p) R → R
  steps-fit p = terms-fit (steps p)

  -- and the results are ring expressions, by two
  abbrev results_at : (s : S) → Program → List (Code (nth (x s)))
  results_at s p = codes (number_fits s) p.results

  pub results-are : (s : S) (p : Program) (es : List Expr) → T (all_plain (results_at s p) (nth_n (bounds b (x s)))) → T (same (forms (results_at s p)) es) → vals (results_at s p) ≡ evals es (nth (x s))
  results-are s p = vals_are (x s) (bounds b (x s)) (line-bounded (x s) (m s)) (results_at s p)

-- ---- in double, for n numbers: what stands past them is 0

abbrev form : ℕ → Term → Form
form n (arg i) = var i
form n (named a) = form n a
form n (a ⊕ b) = plus (form n a) (form n b)
form n (a ⊖ b) = kernels.minus (form n a) (form n b)
form n (minus a) = kernels.minus (var n) (form n a)
form n (k ⊗ a) = times k (form n a)
form n (wide a) = form n a

abbrev forms_of : ℕ → List Term → List Form
forms_of n [] = []
forms_of n (t ∷ ts) = form n t ∷ forms_of n ts

abbrev pub double_forms : ℕ → Program → List Form
double_forms n p = forms_of n p.results
