-- Quads of two tiles of side 2·h side by side: a pair by its quads, and loops that replace them one after the other.
use Rattle.std.specs.Prelude.{◌≡◌, ◌∷◌, ◌+◌, ◌-◌, ◌*◌, ◌/◌, ◌≤◌, ◌<◌}
use Rattle.tile_quad.specs.Prelude.{refl, sym, ap, subst, ◌∙◌, List, [], ℕ, arith, ltb, get_or, Bool, true, false, Float, nan, cell}
use Rattle.std.proofs.Common.{add-zero, ltb-true, ltb-false}
use Rattle.std.proofs.Math.Nat.{div-eq_of_lt, mul-add-div}
use Rattle.sequences.specs.Grid.{grid, cell-grid, grid-ext}
use Rattle.tile_spectrum.specs.QuadLaws.{four}
use Rattle.tile_quad.specs.Lanes.{number_of, quad_at_of, place_of, WithQuadOf, LanesOf}

-- ---- a pair by its quads

-- what holds below n and from n on holds below 2·n
by-halves : (n : ℕ) (P : ℕ → Type 0) → ((u : ℕ) → u < n → P u) → ((u : ℕ) → u < n → P (n + u)) → (y : ℕ) → y < 2 * n → P y
by-halves n P low high y h = go (ltb y n) refl
  where
    go : (c : Bool) → ltb y n ≡ c → P y
    go true e = low y (ltb-true y n e)
    go false e =
        let l = ltb-false y n e in
        let s : n + (y - n) ≡ y = omega arith in
        subst P s (high (y - n) (omega arith))

module _ {A : Type 0} (z : A) (h : ℕ) where
  pub quads-ext : (f g : ℕ → ℕ → A) → ((u l : ℕ) → u < h → l < 2 * h → quad_at_of h f u l ≡ quad_at_of h g u l) → grid (2 * h) (4 * h) f ≡ grid (2 * h) (4 * h) g
  unfolding quad_at_of
  quads-ext f g e =
      grid-ext (2 * h) (4 * h) f g
      (λ y k i j.
      by-halves h (λ y. f y k ≡ g y k)
      (λ u o. by-halves (2 * h) (λ k. f u k ≡ g u k) (λ l p. ap (λ q. get_or q 0 z) (e u l o p)) (λ l p. ap (λ q. get_or q 2 z) (e u l o p)) k (omega arith))
      (λ u o. by-halves (2 * h) (λ k. f (h + u) k ≡ g (h + u) k) (λ l p. ap (λ q. get_or q 1 z) (e u l o p)) (λ l p. ap (λ q. get_or q 3 z) (e u l o p)) k (omega arith))
      y i)

  -- quads of a table
  pub quad-grid : (f : ℕ → ℕ → A) {r : List (List A)} → r ≡ grid (2 * h) (4 * h) f → (u l : ℕ) → u < h → l < 2 * h → quad_at_of h (cell z r) u l ≡ quad_at_of h f u l
  unfolding quad_at_of
  quad-grid f {r} e u l i j = four (at u l (omega arith) (omega arith)) (at (h + u) l (omega arith) (omega arith)) (at u (2 * h + l) (omega arith) (omega arith)) (at (h + u) (2 * h + l) (omega arith) (omega arith))
    where
      at : (y k : ℕ) → y < 2 * h → k < 4 * h → cell z r y k ≡ f y k
      at y k i j = ap (λ t. cell z t y k) e ∙ cell-grid z (2 * h) (4 * h) f y k i j

-- ---- loops

-- quads at one place are one
module _ (h u l x y : ℕ) (k : l < 2 * h) (j : y < 2 * h) (e : place_of h u l ≡ place_of h x y) where
  pub same_row : u ≡ x
  same_row = sym (row u l k) ∙ ap (λ n. n / (2 * h)) e ∙ row x y j
    where
      row : (u l : ℕ) → l < 2 * h → place_of h u l / (2 * h) ≡ u
      row u l k = mul-add-div (omega arith) u l ∙ ap (λ n. u + n) (div-eq_of_lt k) ∙ add-zero u

  pub same-lane : l ≡ y
  same-lane = let d = ap (λ n. 2 * h * n) same_row in omega arith

module _ {h : ℕ} {Pair : List (List Float) → Type 0} {f : (u l : ℕ) → List Float → List Float} where
  pub lanes_start : (n : ℕ) {b : List (List Float)} → Pair b → LanesOf h Pair f n n b b
  lanes_start n p = record { paired = p; new = λ u l h k i j. absurd (omega arith); rest = λ u l h k o. refl }

  -- a range by equal ends
  pub lanes_at : {m n o : ℕ} {b r : List (List Float)} → LanesOf h Pair f m n b r → n ≡ o → LanesOf h Pair f m o b r
  lanes_at {m} {b = b} {r} p e = subst (λ n. LanesOf h Pair f m n b r) e p

  pub lanes-between : {m n o p : ℕ} {b r : List (List Float)} → LanesOf h Pair f m n b r → m ≡ o → n ≡ p → LanesOf h Pair f o p b r
  lanes-between {n = n} {b = b} {r} z d e = lanes_at (subst (λ m. LanesOf h Pair f m n b r) d z) e

  -- one quad
  lanes-one : {u l n : ℕ} → l < 2 * h → place_of h u l ≡ n → {q : List Float} {b r : List (List Float)} → WithQuadOf h Pair u l q b r → number_of q 0 ∷ number_of q 1 ∷ number_of q 2 ∷ number_of q 3 ∷ [] ≡ f u l (quad_at_of h (cell nan b) u l) → LanesOf h Pair f n (n + 1) b r
  lanes-one {u} {l} {n} k o {q} {b} {r} p e =
      record { paired = p.paired; new = new; rest = λ x y i j z. p.apart x y i j (λ s t. let d = ap (λ n. 2 * h * n) s in z (omega arith) (omega arith)) }
    where
      new : (x y : ℕ) → x < h → y < 2 * h → n ≤ place_of h x y → place_of h x y < n + 1 → quad_at_of h (cell nan r) x y ≡ f x y (quad_at_of h (cell nan b) x y)
      new x y i j a c =
          let d : place_of h u l ≡ place_of h x y = omega arith in
          rw (sym (same_row h u l x y k j d), sym (same-lane h u l x y k j d)) (p.here ∙ e)

  -- quads from m on and then from n on
  pub lanes-join : {m n o : ℕ} {b r s : List (List Float)} → m ≤ n → n ≤ o → LanesOf h Pair f m n b r → LanesOf h Pair f n o r s → LanesOf h Pair f m o b s
  lanes-join {m} {n} {o} {b} {r} {s} i j p q =
      record {
        paired = q.paired;
        new = λ u l h' k a c. new u l h' k a c (ltb (place_of h u l) n) refl;
        rest = λ u l h' k z. q.rest u l h' k (λ a c. z (omega arith) (omega arith)) ∙ p.rest u l h' k (λ a c. z (omega arith) (omega arith));
      }
    where
      new : (u l : ℕ) → u < h → l < 2 * h → m ≤ place_of h u l → place_of h u l < o → (c : Bool) → ltb (place_of h u l) n ≡ c → quad_at_of h (cell nan s) u l ≡ f u l (quad_at_of h (cell nan b) u l)
      new u l h' k a c true e =
          let d : place_of h u l < n = ltb-true (place_of h u l) n e in
          q.rest u l h' k (λ a c. omega arith) ∙ p.new u l h' k a d
      new u l h' k a c false e =
          let d : n ≤ place_of h u l = ltb-false (place_of h u l) n e in
          q.new u l h' k d c ∙ ap (f u l) (p.rest u l h' k (λ a c. omega arith))

  pub lanes-turn : {u l m n : ℕ} {q : List Float} {b r s : List (List Float)} → LanesOf h Pair f m n b r → m ≤ n → l < 2 * h → place_of h u l ≡ n → WithQuadOf h Pair u l q r s → number_of q 0 ∷ number_of q 1 ∷ number_of q 2 ∷ number_of q 3 ∷ [] ≡ f u l (quad_at_of h (cell nan r) u l) → LanesOf h Pair f m (n + 1) b s
  lanes-turn p i k o s e = lanes-join i (omega arith) p (lanes-one k o s e)
