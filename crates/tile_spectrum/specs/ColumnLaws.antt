-- A table of n rows of m whose columns are set one after the other, over any n and m. What they are set to may depend on a supposition H, as that the table
-- holds whole numbers.
use Rattle.tile_spectrum.specs.Prelude.{refl, ap, ◌∙◌, cond, List, [], ℕ, arith, eqb, get_or, tab}
use Rattle.std.proofs.Math.ListN.{length}
use Rattle.std.specs.Prelude.{set, ◌≡◌, ◌+◌, ◌≤◌, ◌<◌}
use Rattle.std.proofs.Common.{below_more, eq-eqb, ne_eqb}
use Rattle.sequences.specs.TabLaws.{length-tab, get_d-tab}
use Rattle.sequences.specs.Grid.{grid, cell, cell-grid, grid-ext, grid-of, set-tab, tab-ext}
use Rattle.tile_spectrum.specs.Pairs.{Paired}
use Rattle.tile_spectrum.specs.LongPairs.{LongPaired}

module _ {A : Type 0} {t : List (List A)} (n m : ℕ) (f : ℕ → ℕ → A) (e : t ≡ grid n m f) where
  -- the number of rows
  pub grid-rows : length t ≡ n
  unfolding grid
  grid-rows = ap length e ∙ length-tab (λ k. tab m (f k)) n

  module _ (k : ℕ) (h : k < n) where
    -- row k, its length, and that row with number x replaced by v
    pub grid-row : get_or t k [] ≡ tab m (f k)
    unfolding grid
    grid-row = ap (λ t. get_or t k []) e ∙ get_d-tab (λ k. tab m (f k)) [] n k h

    pub row-length : {r : List A} → r ≡ get_or t k [] → length r ≡ m
    row-length q = ap length (q ∙ grid-row) ∙ length-tab (f k) m

    pub set-row : (x : ℕ) (v : A) → set (get_or t k []) x v ≡ tab m (λ l. cond (eqb l x) v (f k l))
    set-row x v = ap (λ r. set r x v) grid-row ∙ set-tab m (f k) x v

-- a table that is a pair, of either side
pub paired-grid : {A : Type 0} {z : A} {t : List (List A)} (f : ℕ → ℕ → A) → t ≡ grid 16 32 f → Paired z t
paired-grid {z = z} f e = record { is = grid-of z 16 32 f e }

pub long-paired-grid : {A : Type 0} {z : A} {t : List (List A)} (f : ℕ → ℕ → A) → t ≡ grid 32 64 f → LongPaired z t
long-paired-grid {z = z} f e = record { is = grid-of z 32 64 f e }

-- the first x columns of t hold f, and the others are t₀'s: a loop's invariant
pub record ColumnsSet (n m : ℕ) {A : Type 0} (z : A) {H : Type 0} (f : H → ℕ → ℕ → A) (x : ℕ) (t₀ t : List (List A)) : Type 0 where
  pub count : x ≤ m
  pub table : t ≡ grid n m (cell z t)
  pub is : (w : H) (k l : ℕ) → k < n → l < x → cell z t k l ≡ f w k l
  pub rest : (k l : ℕ) → k < n → x ≤ l → l < m → cell z t k l ≡ cell z t₀ k l

none : (l : ℕ) → l < 0 → ⊥
none l h = omega arith

module _ {n m : ℕ} {A : Type 0} {z : A} {H : Type 0} {f : H → ℕ → ℕ → A} {t₀ : List (List A)} where
  pub columns-start : t₀ ≡ grid n m (cell z t₀) → ColumnsSet n m z f 0 t₀ t₀
  columns-start e = record { count = omega arith; table = e; is = λ w k l _ h. absurd (none l h); rest = λ k l _ _ _. refl }

  -- one turn: column x is set to the line c, which holds f's
  pub columns-turn : {x : ℕ} {t r : List (List A)} {c : List A} → ColumnsSet n m z f x t₀ t → x < m → ((w : H) → c ≡ tab n (λ k. f w k x))
      → r ≡ grid n m (λ k l. cond (eqb l x) (get_or c k z) (cell z t k l)) → ColumnsSet n m z f (x + 1) t₀ r
  columns-turn {x} {t} {r} {c} s h e q = record { count = omega arith; table = grid-of z n m _ q; is = turned; rest = kept }
    where
      placed : (k l : ℕ) → k < n → l < m → cell z r k l ≡ cond (eqb l x) (get_or c k z) (cell z t k l)
      placed k l i j = ap (λ s. cell z s k l) q ∙ cell-grid z n m _ k l i j

      new : (w : H) (k : ℕ) → k < n → cell z r k x ≡ f w k x
      new w k i =
          placed k x i h ∙ ap (λ b. cond b (get_or c k z) (cell z t k x)) (eq-eqb x x refl)
          ∙ ap (λ s. get_or s k z) (e w) ∙ get_d-tab (λ k. f w k x) z n k i

      same : (k l : ℕ) → k < n → l < m → (l ≡ x → ⊥) → cell z r k l ≡ cell z t k l
      same k l i j o = placed k l i j ∙ ap (λ b. cond b (get_or c k z) (cell z t k l)) (ne_eqb l x o)

      turned : (w : H) (k l : ℕ) → k < n → l < x + 1 → cell z r k l ≡ f w k l
      turned w k l i j = below_more (λ l. cell z r k l ≡ f w k l) x (λ l j. same k l i (omega arith) (λ e. omega arith) ∙ s.is w k l i j) (new w k i) l j

      kept : (k l : ℕ) → k < n → x + 1 ≤ l → l < m → cell z r k l ≡ cell z t₀ k l
      kept k l i j o = same k l i o (λ e. omega arith) ∙ s.rest k l i (omega arith) o

  pub columns-done : {x : ℕ} {t : List (List A)} → ColumnsSet n m z f x t₀ t → m ≤ x → (w : H) → t ≡ grid n m (f w)
  columns-done {x} {t} s h w = s.table ∙ grid-ext n m _ _ (λ k l i j. s.is w k l i (omega arith))

  -- column x of t is still t₀'s
  pub column-rest : {x : ℕ} {t : List (List A)} → ColumnsSet n m z f x t₀ t → x < m → (h : ℕ → ℕ → A) → t₀ ≡ grid n m h → tab n (λ k. cell z t k x) ≡ tab n (λ k. h k x)
  column-rest {x} {t} s l h e =
      tab-ext n _ _ (λ k i. s.rest k x i (omega arith) l ∙ ap (λ t. cell z t k x) e ∙ cell-grid z n m h k x i l)
