-- The store of a quad of two tiles of side 2·h side by side.
use Rattle.std.specs.Prelude.{◌≡◌, ◌∷◌, ◌+◌, ◌*◌, ◌%◌, ◌<◌}
use Rattle.tile_quad.specs.Prelude.{refl, sym, ap, subst, ◌∙◌, List, [], ℕ, arith, get_or, set, Float, nan}
use native.Mathlib.Nat.{mod-eq_of_lt, add-mod_left}
use Rattle.sequences.specs.Grid.{grid, cell, grid-of, stored, stored_here, stored-apart, set-grid}
use Rattle.tile_spectrum.specs.QuadLaws.{four}
use Rattle.tile_quad.specs.Lanes.{number_of, quad_at_of, WithQuadOf}
use Rattle.tile_quad.specs.LaneLaws.{quad-grid}

abbrev put : ℕ → ℕ → Float → List (List Float) → List (List Float)
put i j x t = set t i (set (get_or t i []) j x)

-- rows and lanes of both halves by their remainders
high : {n i : ℕ} → i < n → (n + i) % n ≡ i
high {n} {i} h = add-mod_left n i ∙ mod-eq_of_lt h

same : (n : ℕ) {a b x y : ℕ} → a % n ≡ x → b % n ≡ y → a ≡ b → x ≡ y
same n p q e = sym p ∙ ap (λ i. i % n) e ∙ q

module _ (h u l : ℕ) (i : u < h) (j : l < 2 * h) (q : List Float) (f : ℕ → ℕ → Float) where
  abbrev one : ℕ → ℕ → Float
  one = stored u l (number_of q 0) f

  abbrev two : ℕ → ℕ → Float
  two = stored (h + u) l (number_of q 1) one

  abbrev three : ℕ → ℕ → Float
  three = stored u (2 * h + l) (number_of q 2) two

  abbrev all : ℕ → ℕ → Float
  all = stored (h + u) (2 * h + l) (number_of q 3) three

  all_here : quad_at_of h all u l ≡ number_of q 0 ∷ number_of q 1 ∷ number_of q 2 ∷ number_of q 3 ∷ []
  unfolding quad_at_of
  all_here =
      four
      (stored-apart _ _ _ three u l (λ p r. omega arith) ∙ stored-apart _ _ _ two u l (λ p r. omega arith) ∙ stored-apart _ _ _ one u l (λ p r. omega arith) ∙ stored_here _ _ _ f u l refl refl)
      (stored-apart _ _ _ three (h + u) l (λ p r. omega arith) ∙ stored-apart _ _ _ two (h + u) l (λ p r. omega arith) ∙ stored_here _ _ _ one (h + u) l refl refl)
      (stored-apart _ _ _ three u (2 * h + l) (λ p r. omega arith) ∙ stored_here _ _ _ two u (2 * h + l) refl refl)
      (stored_here _ _ _ three (h + u) (2 * h + l) refl refl)

  all_apart : (x y : ℕ) → x < h → y < 2 * h → (x ≡ u → y ≡ l → ⊥) → quad_at_of h all x y ≡ quad_at_of h f x y
  unfolding quad_at_of
  all_apart x y v w o =
      four (at x y (mod-eq_of_lt v) (mod-eq_of_lt w)) (at (h + x) y (high v) (mod-eq_of_lt w)) (at x (2 * h + y) (mod-eq_of_lt v) (high w)) (at (h + x) (2 * h + y) (high v) (high w))
    where
      at : (a b : ℕ) → a % h ≡ x → b % (2 * h) ≡ y → all a b ≡ f a b
      at a b c d =
          stored-apart _ _ _ three a b (λ p r. o (same h c (high i) p) (same (2 * h) d (high j) r)) ∙ stored-apart _ _ _ two a b (λ p r. o (same h c (mod-eq_of_lt i) p) (same (2 * h) d (high j) r))
          ∙ stored-apart _ _ _ one a b (λ p r. o (same h c (high i) p) (same (2 * h) d (mod-eq_of_lt j) r)) ∙ stored-apart _ _ _ f a b (λ p r. o (same h c (mod-eq_of_lt i) p) (same (2 * h) d (mod-eq_of_lt j) r))

-- a table of such a pair's size is a pair
module _ (h : ℕ) (Pair : List (List Float) → Type 0) (u l : ℕ) (q : List Float) (b : List (List Float)) where
  -- the stores of a quad into n rows of m, of which half go with n
  abbrev Stored : (n m : ℕ) → Type 0
  Stored n m =
      ((r : List (List Float)) → r ≡ grid n m (cell nan r) → Pair r) → u < h → l < n → b ≡ grid n m (cell nan b) → WithQuadOf h Pair u l q b (put (h + u) (n + l) (number_of q 3) (put u (n + l) (number_of q 2) (put (h + u) l (number_of q 1) (put u l (number_of q 0) b))))

  twice : Stored (2 * h) (4 * h)
  twice pair i j p =
      let f = cell nan b in
      let e =
      set-grid (h + u) (2 * h + l) _ (three h u l i j q f) (2 * h) (4 * h)
      (set-grid u (2 * h + l) _ (two h u l i j q f) (2 * h) (4 * h) (set-grid (h + u) l _ (one h u l i j q f) (2 * h) (4 * h) (set-grid u l _ f (2 * h) (4 * h) p (omega arith)) (omega arith)) (omega arith))
      (omega arith) in
      record {
        paired = pair _ (grid-of nan (2 * h) (4 * h) (all h u l i j q f) e);
        here = quad-grid nan h (all h u l i j q f) e u l i j ∙ all_here h u l i j q f;
        apart = λ x y v w o. quad-grid nan h (all h u l i j q f) e x y v w ∙ all_apart h u l i j q f x y v w o;
      }

  pub with-quad : {n : ℕ} → n ≡ 2 * h → Stored n (2 * n)
  with-quad {n} e =
      let d : 2 * n ≡ 4 * h = omega arith in
      subst (Stored n) (sym d) (subst (λ k. Stored k (4 * h)) (sym e) twice)
