-- Forms of the numbers of a line, worked out in double: their results are the doubles of ring expressions, by two computed tests.
use Rattle.std.specs.Prelude.{◌≡◌, ◌∷◌, ◌+◌, ◌*◌, ◌^◌, ◌≤◌, ◌<◌, ◌+ℤ◌, ◌-ℤ◌, ◌*ℤ◌}
use Rattle.tile_spectrum.specs.Lines.Prelude.{refl, sym, ap, ap₂, subst, ◌∙◌, Bool, true, false, cond, List, [], ℕ, zero, suc, arith, T, ltb, length, get_or, ℤ, pos, nat_abs, Float, nan, binary64, of_int, add, sub, Expr, con, ◌⊞◌, ◌⊟◌, ◌⊠◌, nth, eval, tab}
use Rattle.std.proofs.Common.{zero-le, ltb-true, ltb-false}
use Rattle.algebra.specs.Test.{both, both_l, both_r}
use Rattle.algebra.specs.Ring as ring
use Rattle.algebra.specs.Forms.{evals, same, rings}
use Rattle.sequences.specs.TabLaws.{length-tab, get_d-tab}
use Rattle.sequences.specs.Grid.{tab-ext}
use Rattle.floats.specs.Kernels.{Form, var, plus, minus, times, whole, float, counts, float-whole}
use Rattle.tile_spectrum.specs.Lines.Doubles.{double_line}
use Rattle.tile_spectrum.specs.Lines.Held.{nth-is}

-- ---- lists of forms

abbrev pub floats : List Form → (ℕ → Float) → List Float
floats [] ρ = []
floats (e ∷ es) ρ = float binary64 e ρ ∷ floats es ρ

abbrev pub in_double : List ℤ → List Float
in_double [] = []
in_double (z ∷ zs) = of_int binary64 z ∷ in_double zs

-- no number on the way is too large, where number i of the line is at most β i
abbrev pub all_count : (ℕ → ℕ) → List Form → Bool
all_count β [] = true
all_count β (e ∷ es) = both (counts binary64 e β) (all_count β es)

-- ---- forms as ring expressions

-- of n variables; those past them are 0
abbrev expr : ℕ → Form → Expr
expr n (var i) = cond (ltb i n) (ring.var i) (con (pos 0))
expr n (plus a b) = expr n a ⊞ expr n b
expr n (minus a b) = expr n a ⊟ expr n b
expr n (times m a) = con (pos m) ⊠ expr n a

abbrev pub exprs : ℕ → List Form → List Expr
exprs n [] = []
exprs n (e ∷ es) = expr n e ∷ exprs n es

module _ (n : ℕ) (σ : ℕ → ℤ) (past : (i : ℕ) → n ≤ i → σ i ≡ pos 0) where
  var-is : (i : ℕ) (b : Bool) → ltb i n ≡ b → σ i ≡ eval (cond b (ring.var i) (con (pos 0))) σ
  var-is i true e = refl
  var-is i false e = past i (ltb-false i n e)

  whole_is : (e : Form) → whole e σ ≡ eval (expr n e) σ
  whole_is (var i) = var-is i (ltb i n) refl
  whole_is (plus a b) = ap₂ ◌+ℤ◌ (whole_is a) (whole_is b)
  whole_is (minus a b) = ap₂ ◌-ℤ◌ (whole_is a) (whole_is b)
  whole_is (times m a) = ap (λ z. pos m *ℤ z) (whole_is a)

-- ---- what they give

-- number i of a line, and 0 past its end
abbrev pub at : List Float → ℕ → Float
at x i = get_or x i (of_int binary64 (pos 0))

at-is : (zs : List ℤ) (i : ℕ) → at (in_double zs) i ≡ of_int binary64 (nth zs i)
at-is [] i = refl
at-is (z ∷ zs) zero = refl
at-is (z ∷ zs) (suc i) = at-is zs i

past_end : (zs : List ℤ) (i : ℕ) → length zs ≤ i → nth zs i ≡ pos 0
past_end [] i h = refl
past_end (z ∷ zs) zero h = absurd (omega arith)
past_end (z ∷ zs) (suc i) h = past_end zs i (omega arith)

module _ (β : ℕ → ℕ) (zs : List ℤ) (most : (i : ℕ) → nat_abs (nth zs i) ≤ β i) where
  floats-are : (es : List Form) → T (all_count β es) → floats es (at (in_double zs)) ≡ in_double (evals (exprs (length zs) es) (nth zs))
  floats-are [] t = refl
  floats-are (e ∷ es) t =
      ap₂ ◌∷◌
      (float-whole binary64 (nth zs) (at (in_double zs)) β (at-is zs) most e (both_l (counts binary64 e β) (all_count β es) t)
      ∙ ap (of_int binary64) (whole_is (length zs) (nth zs) (past_end zs) e))
      (floats-are es (both_r (counts binary64 e β) (all_count β es) t))

module _ (n : ℕ) (z : ℕ → ℤ) (β : ℕ → ℕ) (most : (k : ℕ) → nat_abs (z k) ≤ β k) where
  nth-most : (i : ℕ) → nat_abs (nth (tab n z) i) ≤ β i
  nth-most i = go (ltb i n) (ltb-true i n) (ltb-false i n)
    where
      go : (b : Bool) → (b ≡ true → i < n) → (b ≡ false → n ≤ i) → nat_abs (nth (tab n z) i) ≤ β i
      go true l g = subst (λ a. nat_abs a ≤ β i) (sym (nth-is (tab n z) i ∙ get_d-tab z (pos 0) n i (l refl))) (most i)
      go false l g = subst (λ a. nat_abs a ≤ β i) (sym (past_end (tab n z) i (omega (arith, length-tab z n, g refl)))) zero-le

  pub forms-within : {x : List Float} → x ≡ in_double (tab n z) → (es : List Form) (rs : List Expr) → T (all_count β es) → T (same (exprs n es) rs) → floats es (at x) ≡ in_double (evals rs (nth (tab n z)))
  forms-within e es rs t u =
      ap (λ x. floats es (at x)) e ∙ floats-are β (tab n z) nth-most es t
      ∙ ap (λ m. in_double (evals (exprs m es) (nth (tab n z)))) (length-tab z n) ∙ ap in_double (rings (tab n z) (exprs n es) rs u)

-- where all are at most b
pub forms-are : {b : ℕ} (n : ℕ) (z : ℕ → ℤ) → ((k : ℕ) → nat_abs (z k) ≤ b) → {x : List Float} → x ≡ in_double (tab n z) → (es : List Form) (rs : List Expr) → T (all_count (λ k. b) es) → T (same (exprs n es) rs) → floats es (at x) ≡ in_double (evals rs (nth (tab n z)))
forms-are {b} n z most = forms-within n z (λ k. b) most

-- ---- two numbers

module _ (a b : ℤ) (p : nat_abs a ≤ 2 ^ 52) (q : nat_abs b ≤ 2 ^ 52) where
  two-most : (i : ℕ) → nat_abs (nth (a ∷ b ∷ []) i) ≤ 2 ^ 52
  two-most zero = p
  two-most (suc zero) = q
  two-most (suc (suc i)) = zero-le

  pub sum-exact : add binary64 (of_int binary64 a) (of_int binary64 b) ≡ of_int binary64 (a +ℤ b)
  sum-exact = float-whole binary64 (nth (a ∷ b ∷ [])) (at (in_double (a ∷ b ∷ []))) (λ i. 2 ^ 52) (at-is (a ∷ b ∷ [])) two-most (plus (var 0) (var 1)) tt

  pub difference-exact : sub binary64 (of_int binary64 a) (of_int binary64 b) ≡ of_int binary64 (a -ℤ b)
  difference-exact = float-whole binary64 (nth (a ∷ b ∷ [])) (at (in_double (a ∷ b ∷ []))) (λ i. 2 ^ 52) (at-is (a ∷ b ∷ [])) two-most (minus (var 0) (var 1)) tt

-- ---- numbers picked from a line

-- each the n-th one from p on, as the code names their places
abbrev pub from : (n p : ℕ) → ℕ → ℕ
from n p zero = p
from n p (suc k) = p + n * suc k

pub from_is : (n p k : ℕ) → from n p k ≡ n * k + p
from_is n p zero = omega arith
from_is n p (suc k) = omega arith

-- m of them
pub picked : (m n : ℕ) {x : List Float} (z : ℕ → ℤ) → x ≡ double_line n z → (f g : ℕ → ℕ) → ((k : ℕ) → k < m → f k ≡ g k) → ((k : ℕ) → k < m → g k < n) → tab m (λ k. get_or x (f k) nan) ≡ double_line m (λ k. z (g k))
picked m n {x} z e f g s h =
    tab-ext m _ _ (λ k l. ap₂ (λ x i. get_or x i nan) e (s k l) ∙ get_d-tab (λ i. of_int binary64 (z i)) nan n (g k) (h k l))

pub picked-line : (n : ℕ) {x : List Float} (z : ℕ → ℤ) → x ≡ double_line n z → (f g : ℕ → ℕ) → ((k : ℕ) → k < 8 → f k ≡ g k) → ((k : ℕ) → k < 8 → g k < n) → tab 8 (λ k. get_or x (f k) nan) ≡ double_line 8 (λ k. z (g k))
picked-line = picked 8
