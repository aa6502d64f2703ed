-- A test of some index: over rows it is one over all, and a loop that stops at the first hit decides it.
use Rattle.algebra.specs.Prelude.{refl, sym, ap, ◌∙◌, Bool, true, false, List, ℕ, zero, suc, arith}
use Rattle.std.proofs.Common.{add-zero, add-suc, zero-mul, suc-mul, add-one}
use Rattle.std.proofs.Math.Decide.{dec_lt, ℕ_discrete}
use Rattle.std.specs.Prelude.{length, get_or, ◌≡◌, ◌||◌, ◌+◌, ◌-◌, ◌*◌, ◌≤◌, ◌<◌}
use Rattle.std.proofs.Math.ListN.{get_or-eq_default}
use Rattle.refusals.specs.Some.{some}

pub or-false : (a : Bool) → a || false ≡ a
or-false true = refl
or-false false = refl

pub or-true : (a : Bool) → a || true ≡ true
or-true true = refl
or-true false = refl

or_assoc : (a b c : Bool) → (a || b) || c ≡ a || (b || c)
or_assoc true b c = refl
or_assoc false b c = refl

some-add : (a b : ℕ) (f : ℕ → Bool) → some (a + b) f ≡ some a f || some b (λ j. f (a + j))
unfolding some
some-add a zero f = rw (add-zero, or-false)
some-add a (suc b) f = rw (add-suc, some-add a b f, or_assoc)

-- m rows of n
pub some_rows : (m n : ℕ) (f : ℕ → Bool) → some m (λ i. some n (λ j. f (i * n + j))) ≡ some (m * n) f
unfolding some
some_rows zero n f = rw zero-mul
some_rows (suc m) n f = rw (some_rows m n f, suc-mul, some-add)

pub one : (n : ℕ) (f : ℕ → Bool) (i : ℕ) → i < n → f i ≡ true → some n f ≡ true
unfolding some
one zero f i h e = absurd (omega arith)
one (suc n) f i h e = last (λ l. one n f i l e) (ℕ_discrete i n)
  where
    last : (i < n → some n f ≡ true) → Dec (i ≡ n) → some n f || f n ≡ true
    last before (yes p) = rw (ap f (sym p) ∙ e, or-true)
    last before (no p) = rw (before (omega arith))

-- one of m from i on
pub one_of : (n : ℕ) (f : ℕ → Bool) (i m : ℕ) → i + m ≤ n → some m (λ j. f (i + j)) ≡ true → some n f ≡ true
one_of n f i m h e =
    let all : n ≡ i + m + (n - (i + m)) = omega arith in
    let hit : some (i + m) f ≡ true = some-add i m f ∙ ap (λ b. some i f || b) e ∙ or-true (some i f) in
    ap (λ k. some k f) all ∙ some-add (i + m) (n - (i + m)) f ∙ rw hit

pub none : (n : ℕ) (f : ℕ → Bool) → some n f ≡ false → (i : ℕ) → i < n → f i ≡ false
none n f e i h = decide (f i) (one n f i h)
  where
    decide : (b : Bool) → (b ≡ true → some n f ≡ true) → b ≡ false
    decide true hit = sym (hit refl) ∙ e
    decide false hit = refl

pub not-one : (n : ℕ) (f : ℕ → Bool) → ((i : ℕ) → i < n → f i ≡ false) → some n f ≡ false
unfolding some
not-one zero f h = refl
not-one (suc n) f h = rw (not-one n f (λ i l. h i (omega arith))) (h n (omega arith))

-- none of f 0, .., f (i − 1) holds, of n: a loop's invariant
pub record Passed (f : ℕ → Bool) (n i : ℕ) : Type 0 where
  pub count : i ≤ n
  pub past : some i f ≡ false

module _ {f : ℕ → Bool} {n : ℕ} where
  pub pass-start : Passed f n 0
  unfolding some
  pass-start = record { count = omega arith; past = refl }

  pub pass-turn : {i : ℕ} → Passed f n i → i < n → f i ≡ false → Passed f n (i + 1)
  unfolding some
  pass-turn {i} p h e = record { count = omega arith; past = rw (add-one i, p.past) e }

  -- a turn that passes m
  pub pass-turns : {i : ℕ} → Passed f n i → (m : ℕ) → i + m ≤ n → some m (λ j. f (i + j)) ≡ false → Passed f n (i + m)
  pass-turns {i} p m h e = record { count = h; past = rw (some-add i m f, p.past) e }

  pub pass-done : {i : ℕ} → Passed f n i → n ≤ i → some n f ≡ false
  pass-done {i} p h = let all : n ≡ i = omega arith in rw all p.past

-- what holds of the default and of each element holds at every index
pub every : {A : Type 0} (P : A → Type 0) (d : A) (l : List A) → P d → ((k : ℕ) → k < length l → P (get_or l k d)) → (k : ℕ) → P (get_or l k d)
every P d l pd h k = at (dec_lt k (length l))
  where
    at : Dec (k < length l) → P (get_or l k d)
    at (yes p) = h k p
    at (no p) = rw (get_or-eq_default l d {n = k} (omega arith)) pd
