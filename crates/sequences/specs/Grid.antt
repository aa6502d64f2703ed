-- Tables by their entries, and tables of two indices: rows of cells.
use Rattle.algebra.specs.Prelude.{refl, sym, ap, ap₂, ◌∙◌, Bool, true, false, cond, List, [], ℕ, zero, suc, arith, eqb}
use Rattle.std.proofs.Common.{le_refl, length-set, ext_get_or, get_or-set_same, get_or-set_other}
use borrow.Author.Tests.{eq-eqb, eqb-true, eqb-false}
use Rattle.std.specs.Prelude.{length, get_or, ◌≡◌, ◌&&◌, ◌∷◌, ◌++◌, ◌<◌}
use Rattle.std.proofs.Math.ListN.{set}
use Rattle.sequences.specs.Tab.{tab}
use Rattle.sequences.specs.TabLaws.{length-tab, get_d-tab}

pub tab-ext : {A : Type 0} (n : ℕ) (f g : ℕ → A) → ((i : ℕ) → i < n → f i ≡ g i) → tab n f ≡ tab n g
unfolding tab
tab-ext zero f g h = refl
tab-ext (suc n) f g h = ap₂ (λ l x. l ++ (x ∷ [])) (tab-ext n f g (λ i k. h i (omega arith))) (h n (le_refl (suc n)))

-- f i j at row i and column j, for m rows of n
unfoldable pub grid : {A : Type 0} → ℕ → ℕ → (ℕ → ℕ → A) → List (List A)
grid m n f = tab m (λ i. tab n (f i))

-- what stands at row i and column j
unfoldable pub cell : {A : Type 0} → A → List (List A) → ℕ → ℕ → A
cell d t i j = get_or (get_or t i []) j d

pub cell-grid : {A : Type 0} (d : A) (m n : ℕ) (f : ℕ → ℕ → A) (i j : ℕ) → i < m → j < n → cell d (grid m n f) i j ≡ f i j
unfolding cell grid
cell-grid d m n f i j h k = ap (λ r. get_or r j d) (get_d-tab (λ i. tab n (f i)) [] m i h) ∙ get_d-tab (f i) d n j k

pub grid-ext : {A : Type 0} (m n : ℕ) (f g : ℕ → ℕ → A) → ((i j : ℕ) → i < m → j < n → f i j ≡ g i j) → grid m n f ≡ grid m n g
unfolding grid
grid-ext m n f g h = tab-ext m (λ i. tab n (f i)) (λ i. tab n (g i)) (λ i k. tab-ext n (f i) (g i) (λ j l. h i j k l))

-- a list is the table of its elements
pub tab-of : {A : Type 0} (d : A) (l : List A) → l ≡ tab (length l) (λ i. get_or l i d)
tab-of d l = ext_get_or d l (tab (length l) (λ i. get_or l i d)) (sym (length-tab (λ i. get_or l i d) (length l))) (λ i h. sym (get_d-tab (λ i. get_or l i d) d (length l) i h))

-- and a table of two indices that of its cells
pub grid-of : {A : Type 0} (d : A) (m n : ℕ) (f : ℕ → ℕ → A) {t : List (List A)} → t ≡ grid m n f → t ≡ grid m n (cell d t)
grid-of d m n f {t} e = e ∙ grid-ext m n f (cell d t) (λ i j h k. sym (ap (λ t. cell d t i j) e ∙ cell-grid d m n f i j h k))

-- a store into a table
module _ {A : Type 0} (n : ℕ) (f : ℕ → A) (i : ℕ) (x : A) where
  set-tab-at : (k : ℕ) → k < n → get_or (set (tab n f) i x) k x ≡ cond (eqb k i) x (f k)
  set-tab-at k h = go (eqb k i) (eqb-true k i) (eqb-false k i)
    where
      go : (c : Bool) → (c ≡ true → k ≡ i) → (c ≡ false → k ≡ i → ⊥) → get_or (set (tab n f) i x) k x ≡ cond c x (f k)
      go true p q =
          ap (λ j. get_or (set (tab n f) j x) k x) (sym (p refl)) ∙ get_or-set_same (tab n f) k x x (omega (arith, length-tab f n))
      go false p q = get_or-set_other (tab n f) i k x x (q refl) ∙ get_d-tab f x n k h

  pub set-tab : set (tab n f) i x ≡ tab n (λ k. cond (eqb k i) x (f k))
  set-tab =
      let g : ℕ → A = λ k. cond (eqb k i) x (f k) in
      let long = length-set (tab n f) i x ∙ length-tab f n in
      ext_get_or x (set (tab n f) i x) (tab n g) (long ∙ sym (length-tab g n)) (λ k h. let l : k < n = omega arith in set-tab-at k l ∙ sym (get_d-tab g x n k l))

-- f with x at row i and column j
unfoldable pub stored : {A : Type 0} → ℕ → ℕ → A → (ℕ → ℕ → A) → ℕ → ℕ → A
stored i j x f a b = cond (eqb a i && eqb b j) x (f a b)

module _ {A : Type 0} (i j : ℕ) (x : A) (f : ℕ → ℕ → A) where
  module _ (a b : ℕ) where
    pub stored_here : a ≡ i → b ≡ j → stored i j x f a b ≡ x
    unfolding stored
    stored_here p q = rw (eq-eqb a i p, eq-eqb b j q)

    pub stored-apart : (a ≡ i → b ≡ j → ⊥) → stored i j x f a b ≡ f a b
    unfolding stored
    stored-apart h = go (eqb a i) (eqb b j) (eqb-true a i) (eqb-true b j)
      where
        go : (c d : Bool) → (c ≡ true → a ≡ i) → (d ≡ true → b ≡ j) → cond (c && d) x (f a b) ≡ f a b
        go true true p q = absurd (h (p refl) (q refl))
        go true false p q = refl
        go false d p q = refl

  -- a store into a table of two indices
  pub set-grid : (m n : ℕ) {t : List (List A)} → t ≡ grid m n f → i < m → set t i (set (get_or t i []) j x) ≡ grid m n (stored i j x f)
  unfolding grid stored
  set-grid m n e h =
      ap (λ t. set t i (set (get_or t i []) j x)) e
      ∙ ap (λ r. set (tab m (λ i. tab n (f i))) i (set r j x)) (get_d-tab (λ i. tab n (f i)) [] m i h)
      ∙ ap (λ r. set (tab m (λ i. tab n (f i))) i r) (set-tab n (f i) j x)
      ∙ set-tab m (λ i. tab n (f i)) i (tab n (λ b. cond (eqb b j) x (f i b)))
      ∙ tab-ext m _ _ (λ a k. row a (eqb a i) (eqb-true a i))
    where
      row : (a : ℕ) (c : Bool) → (c ≡ true → a ≡ i) → cond c (tab n (λ b. cond (eqb b j) x (f i b))) (tab n (f a)) ≡ tab n (λ b. cond (c && eqb b j) x (f a b))
      row a true p = ap (λ i. tab n (λ b. cond (eqb b j) x (f i b))) (sym (p refl))
      row a false p = refl
