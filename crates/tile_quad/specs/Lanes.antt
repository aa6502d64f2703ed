-- Inside the crates of the merge: the Wiener step on two tiles of side 2·h side by side in double, quad by quad. Quad (u, l) holds lanes l and 2·h + l of rows u and
-- h + u: of plane l % 2, quad (l / 2, u) of the tile, which is held by columns.
use Rattle.std.specs.Prelude.{◌≡◌, ◌∷◌, ◌+◌, ◌*◌, ◌/◌, ◌≤◌, ◌<◌}
use Rattle.tile_quad.specs.Prelude.{cond, List, [], ℕ, eqb, get_or, Float, nan, binary64, add, sub, cell, by_kind, PairedOf}
use Rattle.tile_spectrum.specs.Lines.Doubles.{WholeDouble}

-- ---- a quad of G from that of B

-- number i of four
abbrev pub number_of : List Float → ℕ → Float
number_of q i = get_or q i nan

-- the parts re, im, re', im' of the two bins of a quad, as `two_bins` has them
unfoldable pub bins_in : (k u : ℕ) (q : List Float) → List Float
bins_in k u q =
    by_kind k u (number_of q 0 ∷ number_of q 1 ∷ number_of q 2 ∷ number_of q 3 ∷ []) (number_of q 0 ∷ number_of q 2 ∷ number_of q 1 ∷ number_of q 3 ∷ [])
    (sub binary64 (number_of q 0) (number_of q 3) ∷ add binary64 (number_of q 1) (number_of q 2) ∷ add binary64 (number_of q 0) (number_of q 3) ∷ sub binary64 (number_of q 2) (number_of q 1) ∷ [])

-- G by the parts of two bins, folded, as `folded_quad` has it
unfoldable pub folded_in : (k u : ℕ) (re im re' im' : Float) → List Float
folded_in k u re im re' im' =
    by_kind k u
    (add binary64 re re ∷ add binary64 im im ∷ add binary64 re' re' ∷ add binary64 im' im' ∷ [])
    (re ∷ re' ∷ im ∷ im' ∷ [])
    (add binary64 re re' ∷ sub binary64 im im' ∷ add binary64 im im' ∷ sub binary64 re' re ∷ [])

-- the corner: four real bins, by G of one
unfoldable pub corner_in : (real : Float → Float) (q : List Float) → List Float
corner_in real q = real (number_of q 0) ∷ real (number_of q 1) ∷ real (number_of q 2) ∷ real (number_of q 3) ∷ []

-- the others: two bins, by both parts of G of one
unfoldable pub fold_in : (gains : (a b : Float) → List Float) (k u : ℕ) (b : List Float) → List Float
fold_in gains k u b =
    let g = gains (number_of b 0) (number_of b 1) in
    let h = gains (number_of b 2) (number_of b 3) in
    folded_in k u (number_of g 0) (number_of g 1) (number_of h 0) (number_of h 1)

unfoldable pub quad_in : (real : Float → Float) (gains : (a b : Float) → List Float) (k u : ℕ) (q : List Float) → List Float
quad_in real gains k u q = cond (eqb (k + u) 0) (corner_in real q) (fold_in gains k u (bins_in k u q))

-- the parts of the bins of a quad are whole numbers of at most m
pub record WholeBinsOf (m k u : ℕ) (q : List Float) : Type 0 where
  pub at : (i : ℕ) → i < 4 → WholeDouble m (number_of (bins_in k u q) i)

-- ---- quads of a pair of tiles of side 2·h

-- quad (u, l): rows u and h + u of lanes l and 2·h + l
unfoldable pub quad_at_of : {A : Type 0} → (h : ℕ) (f : ℕ → ℕ → A) (u l : ℕ) → List A
quad_at_of h f u l = f u l ∷ f (h + u) l ∷ f u (2 * h + l) ∷ f (h + u) (2 * h + l) ∷ []

-- its place in the order of the loops, row by row
abbrev pub place_of : (h u l : ℕ) → ℕ
place_of h u l = 2 * h * u + l

-- Pair says that a table is a pair of such tiles
module _ (h : ℕ) (Pair : List (List Float) → Type 0) where
  -- r is b with q for its quad (u, l)
  pub record WithQuadOf (u l : ℕ) (q : List Float) (b r : List (List Float)) : Type 0 where
    pub paired : Pair r
    pub here : quad_at_of h (cell nan r) u l ≡ number_of q 0 ∷ number_of q 1 ∷ number_of q 2 ∷ number_of q 3 ∷ []
    pub apart : (x y : ℕ) → x < h → y < 2 * h → (x ≡ u → y ≡ l → ⊥) → quad_at_of h (cell nan r) x y ≡ quad_at_of h (cell nan b) x y

  -- r is b with quads from m on and below n, in the order of their places, replaced by what f makes of them: a loop's invariant
  pub record LanesOf (f : (u l : ℕ) → List Float → List Float) (m n : ℕ) (b r : List (List Float)) : Type 0 where
    pub paired : Pair r
    pub new : (u l : ℕ) → u < h → l < 2 * h → m ≤ place_of h u l → place_of h u l < n → quad_at_of h (cell nan r) u l ≡ f u l (quad_at_of h (cell nan b) u l)
    pub rest : (u l : ℕ) → u < h → l < 2 * h → (m ≤ place_of h u l → place_of h u l < n → ⊥) → quad_at_of h (cell nan r) u l ≡ quad_at_of h (cell nan b) u l

-- ---- of a pair of an even side n, in rows of w places

pub record IsEvenPair (w n : ℕ) : Type 0 where
  pub places : w ≡ 2 * n
  pub even : n ≡ 2 * (n / 2)

abbrev pub quad_at : {A : Type 0} → (n : ℕ) (f : ℕ → ℕ → A) (u l : ℕ) → List A
quad_at n = quad_at_of (n / 2)

abbrev pub place : (n u l : ℕ) → ℕ
place n = place_of (n / 2)

abbrev pub WithQuad : (n u l : ℕ) (q : List Float) (b r : List (List Float)) → Type 0
WithQuad n = WithQuadOf (n / 2) (PairedOf n nan)

abbrev pub Lanes : (n : ℕ) (f : (u l : ℕ) → List Float → List Float) (from below : ℕ) (b r : List (List Float)) → Type 0
Lanes n = LanesOf (n / 2) (PairedOf n nan)
