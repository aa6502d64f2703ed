-- A list that a loop turns into f 0, .., f (n - 1) from the front, and what holds of every element.
use Rattle.algebra.specs.Prelude.{refl, sym, ap, ◌∙◌, ℕ, zero, suc, arith}
use mathlib.Core.List.{List, [], ◌∷◌, ◌++◌, append-nil}
use Rattle.std.proofs.Common.{add-one, below_more, length-set, drop-cons}
use Rattle.std.specs.Prelude.{length, get_or, ◌≡◌, ◌+◌, ◌≤◌, ◌<◌}
use Rattle.std.proofs.Math.ListN.{drop, set, length-append, get_or-append}
use Rattle.std.proofs.Math.Seq.{set_at, append_snoc, drop-length}
use Rattle.std.proofs.lemmas.List.{get_or_at}
use Rattle.sequences.specs.Tab.{tab}

module _ {A : Type 0} (f : ℕ → A) where
  pub length-tab : (n : ℕ) → length (tab n f) ≡ n
  unfolding tab
  length-tab zero = refl
  length-tab (suc n) = length-append (tab n f) (f n ∷ []) ∙ omega (arith, length-tab n)

  -- where the loop begins
  pub tab-none : (l : List A) → l ≡ tab 0 f ++ drop 0 l
  unfolding tab
  tab-none l = refl

  -- one turn: the store of f i at i
  pub tab-more : (i : ℕ) (l : List A) → i < length l → set (tab i f ++ drop i l) i (f i) ≡ tab (i + 1) f ++ drop (i + 1) l
  unfolding tab
  tab-more i l h =
      ap (λ (r : List A). set (tab i f ++ r) i (f i)) (drop-cons l i (f i) h)
      ∙ set_at (tab i f) (get_or l i (f i)) (drop (suc i) l) (f i) i (length-tab i)
      ∙ sym (append_snoc (tab i f) (f i) (drop (suc i) l))
      ∙ ap (λ (n : ℕ). tab n f ++ drop n l) (sym (add-one i))

  -- where the loop ends
  pub tab-all : (n : ℕ) (l : List A) → length l ≡ n → tab n f ++ drop n l ≡ tab n f
  tab-all n l e = ap (λ (m : ℕ). tab n f ++ drop m l) (sym e) ∙ ap (λ (r : List A). tab n f ++ r) (drop-length l) ∙ append-nil (tab n f)

-- r is l with f 0 .. f (i - 1) stored at its first i places, of n: a loop's invariant
pub record Filled {A : Type 0} (f : ℕ → A) (n i : ℕ) (l r : List A) : Type 0 where
  pub count : i ≤ n
  pub long : length l ≡ n
  pub same : length r ≡ n
  pub is : r ≡ tab i f ++ drop i l

module _ {A : Type 0} {f : ℕ → A} {n : ℕ} {l : List A} where
  pub fill_start : length l ≡ n → Filled f n 0 l l
  fill_start e = record { count = omega arith; long = e; same = e; is = tab-none f l }

  pub fill-turn : {i : ℕ} {r : List A} {v : A} → Filled f n i l r → i < n → v ≡ f i → Filled f n (i + 1) l (set r i v)
  fill-turn {i} {r} {v} w h e =
      record {
        count = omega arith;
        long = w.long;
        same = length-set r i v ∙ w.same;
        is = ap (λ (x : List A). set x i v) w.is ∙ ap (λ (x : A). set (tab i f ++ drop i l) i x) e ∙ tab-more f i l (omega arith);
      }

  -- what is not stored yet is as it was
  pub fill-rest : {i : ℕ} {r : List A} → Filled f n i l r → i < n → (d : A) → get_or r i d ≡ get_or l i d
  fill-rest {i} {r} w h d =
      ap (λ (x : List A). get_or x i d) w.is ∙ ap (λ (x : List A). get_or (tab i f ++ x) i d) (drop-cons l i d (omega (arith, w.long)))
      ∙ get_or_at (tab i f) (get_or l i d) (drop (suc i) l) d i (length-tab f i)

  pub fill_done : {i : ℕ} {r : List A} → Filled f n i l r → n ≤ i → r ≡ tab n f
  fill_done {i} {r} w h =
      let e : i ≡ n = omega arith in
      w.is ∙ ap (λ (m : ℕ). tab m f ++ drop m l) e ∙ tab-all f n l w.long

-- what holds of the default and of each f k below n holds of each element of the table
append-every : {A : Type 0} (P : A → Type 0) (d : A) (xs ys : List A) → ((i : ℕ) → P (get_or xs i d)) → ((i : ℕ) → P (get_or ys i d)) → (i : ℕ) → P (get_or (xs ++ ys) i d)
append-every P d [] ys h k i = k i
append-every P d (x ∷ xs) ys h k zero = h 0
append-every P d (x ∷ xs) ys h k (suc i) = append-every P d xs ys (λ j. h (suc j)) k i

one-every : {A : Type 0} (P : A → Type 0) (d x : A) → P d → P x → (i : ℕ) → P (get_or (x ∷ []) i d)
one-every P d x pd px zero = px
one-every P d x pd px (suc i) = pd

pub tab-each : {A : Type 0} (P : A → Type 0) (d : A) (f : ℕ → A) → P d → (n : ℕ) → ((k : ℕ) → k < n → P (f k)) → (i : ℕ) → P (get_or (tab n f) i d)
unfolding tab
tab-each P d f pd zero h i = pd
tab-each P d f pd (suc n) h i =
    append-every P d (tab n f) (f n ∷ []) (tab-each P d f pd n (λ k l. h k (omega arith))) (one-every P d (f n) pd (h n (omega arith))) i

pub tab-every : {A : Type 0} (P : A → Type 0) (d : A) (f : ℕ → A) → P d → ((k : ℕ) → P (f k)) → (n i : ℕ) → P (get_or (tab n f) i d)
tab-every P d f pd h n = tab-each P d f pd n (λ k l. h k)

none : (i : ℕ) → i < 0 → ⊥
none i h = omega arith

pub get_d-tab : {A : Type 0} (f : ℕ → A) (d : A) (n i : ℕ) → i < n → get_or (tab n f) i d ≡ f i
unfolding tab
get_d-tab f d zero i h = absurd (none i h)
get_d-tab f d (suc n) i h =
    below_more (λ (k : ℕ). get_or (tab (suc n) f) k d ≡ f k) n
    (λ k l. get_or-append (tab n f) (f n ∷ []) d k (rw (length-tab f n) l) ∙ get_d-tab f d n k l)
    (get_or_at (tab n f) (f n) [] d n (length-tab f n)) i (omega arith)
