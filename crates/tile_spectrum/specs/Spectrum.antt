-- The bins of a tile of real differences in halfcomplex form both ways: line k holds place k of the rows' transforms, and along it stand the places of
-- the columns'. And the way back: G folded to the same form, and the sums over it.
use Rattle.std.specs.Prelude.{◌≡◌, ◌∷◌, ◌+◌, ◌-◌, ◌%◌, ◌<◌, ◌+ℤ◌, ◌-ℤ◌, ◌*ℤ◌}
use Rattle.tile_spectrum.specs.Prelude.{cond, List, [], ℕ, zero, suc, eqb, ltb, ℤ, pos, neg_ℤ, halfcomplex_of, backward_of, Side, side16, opposite_of, bin_re, bin_im, filtered}

-- the code holds a tile by columns: place k of line b
abbrev pub transposed : (t : ℕ → ℕ → ℤ) → (b k : ℕ) → ℤ
transposed t b k = t k b

-- three kinds of quads: of lines 0 and n/2; of places 0 and n/2, in other lines; and the rest
unfoldable pub by_kind : {A : Type 0} → (v u : ℕ) (top left inner : A) → A
by_kind zero u top left inner = top
by_kind (suc v) zero top left inner = left
by_kind (suc v) (suc u) top left inner = inner

-- G by the parts of two bins, folded: with their conjugates at n − u; as they are; and with each other
unfoldable pub folded_quad : (v u : ℕ) (re im re' im' : ℤ) → List ℤ
folded_quad v u re im re' im' =
    by_kind v u
    ((re +ℤ re) ∷ (im +ℤ im) ∷ (re' +ℤ re') ∷ (im' +ℤ im') ∷ [])
    (re ∷ re' ∷ im ∷ im' ∷ [])
    ((re +ℤ re') ∷ (im -ℤ im') ∷ (im +ℤ im') ∷ (re' -ℤ re) ∷ [])

-- ---- tiles of any side n

module _ (s : Side) where
  -- place b of line k, from the differences
  unfoldable pub two_way_of : (d : ℕ → ℕ → ℤ) → (k b : ℕ) → ℤ
  two_way_of d k = halfcomplex_of s (λ y. halfcomplex_of s (d y) k)

  -- numbers 0 and n/2 are their own conjugates
  unfoldable pub apart_of : {A : Type 0} → (k : ℕ) (own paired : A) → A
  apart_of k own paired = cond (eqb (k % s.half) 0) own paired

  -- number u of the line whose halfcomplex form is z: its parts
  unfoldable pub real_part : (z : ℕ → ℤ) (u : ℕ) → ℤ
  real_part z u = cond (ltb u (s.half + 1)) (z u) (z (s.side - u))

  unfoldable pub imaginary_part : (z : ℕ → ℤ) (u : ℕ) → ℤ
  imaginary_part z u = apart_of u (pos 0) (cond (ltb u (s.half + 1)) (z (s.half + u)) (neg_ℤ (z (s.side + s.half - u))))

  -- the line of the imaginary parts that belongs to line v
  unfoldable pub beside_of : (t : ℕ → ℕ → ℤ) (v : ℕ) → ℕ → ℤ
  beside_of t v = apart_of v (λ b. pos 0) (t (s.half + v))

  -- B at (u, v) for v up to n/2: the parts of number u of the complex line t v + i·(beside t v)
  unfoldable pub tile_re_of : (t : ℕ → ℕ → ℤ) (u v : ℕ) → ℤ
  tile_re_of t u v = real_part (t v) u -ℤ imaginary_part (beside_of t v) u

  unfoldable pub tile_im_of : (t : ℕ → ℕ → ℤ) (u v : ℕ) → ℤ
  tile_im_of t u v = imaginary_part (t v) u +ℤ real_part (beside_of t v) u

  -- A complex line g + i·h, folded: the inverse's real parts are the sums back from this
  unfoldable pub fold_re_of : (g h : ℕ → ℤ) (b : ℕ) → ℤ
  fold_re_of g h b = apart_of b (g b) (cond (ltb b (s.half + 1)) (g b +ℤ g (s.side - b)) (h (b - s.half) -ℤ h (s.side + s.half - b)))

  -- and its imaginary parts from this
  unfoldable pub fold_im_of : (g h : ℕ → ℤ) (b : ℕ) → ℤ
  fold_im_of g h b = apart_of b (h b) (cond (ltb b (s.half + 1)) (h b +ℤ h (s.side - b)) (g (s.side + s.half - b) -ℤ g (b - s.half)))

  -- G = g + i·h along each column v, folded: line k holds the real parts of column k, or the imaginary parts of column k − n/2
  unfoldable pub spread_of : (g h : ℕ → ℕ → ℤ) (k b : ℕ) → ℤ
  spread_of g h k =
      cond (ltb k (s.half + 1)) (fold_re_of (λ u. g u k) (λ u. h u k)) (fold_im_of (λ u. g u (k - s.half)) (λ u. h u (k - s.half)))

  -- a column other than 0 and n/2 counts for its conjugate too
  unfoldable pub counted_of : (k : ℕ) → ℤ → ℤ
  counted_of k z = apart_of k z (pos 2 *ℤ z)

  -- the inverse sum at row y and column x
  unfoldable pub back_sum_of : (z : ℕ → ℕ → ℤ) (y x : ℕ) → ℤ
  back_sum_of z y = backward_of s (λ k. counted_of k (backward_of s (z k) y))

  -- A spectrum of real differences is its own mirror image's conjugate
  pub record MirroredOf (g h : ℕ → ℕ → ℤ) : Type 0 where
    pub re : (u v : ℕ) → u < s.side → v < s.side → g (opposite_of s u) (opposite_of s v) ≡ g u v
    pub im : (u v : ℕ) → u < s.side → v < s.side → h (opposite_of s u) (opposite_of s v) ≡ neg_ℤ (h u v)

  -- A tile by quads: quad (v, u) holds the places u and n/2 + u of line v, then of line n/2 + v
  unfoldable pub quad_places : (t : ℕ → ℕ → ℤ) (v u : ℕ) → List ℤ
  quad_places t v u = t v u ∷ t v (s.half + u) ∷ t (s.half + v) u ∷ t (s.half + v) (s.half + u) ∷ []

  -- The parts re, im, re', im' of two bins of B: those at (u, 0) and (u, n/2), at (0, v) and (n/2, v), or at (u, v) and (n − u, v). The corner (0, 0) has four
  -- bins, which are real
  unfoldable pub two_bins_of : (t : ℕ → ℕ → ℤ) (v u : ℕ) → List ℤ
  two_bins_of t v u =
      by_kind v u (quad_places t v u) (t v u ∷ t (s.half + v) u ∷ t v (s.half + u) ∷ t (s.half + v) (s.half + u) ∷ [])
      ((t v u -ℤ t (s.half + v) (s.half + u)) ∷ (t v (s.half + u) +ℤ t (s.half + v) u) ∷ (t v u +ℤ t (s.half + v) (s.half + u)) ∷ (t (s.half + v) u -ℤ t v (s.half + u)) ∷ [])

  -- G of the tile t at the noise number
  unfoldable pub gain_re_of : (noise : ℕ) (t : ℕ → ℕ → ℤ) (u v : ℕ) → ℤ
  gain_re_of noise t u v = filtered s noise (tile_re_of t u v) (tile_im_of t u v)

  unfoldable pub gain_im_of : (noise : ℕ) (t : ℕ → ℕ → ℤ) (u v : ℕ) → ℤ
  gain_im_of noise t u v = filtered s noise (tile_im_of t u v) (tile_re_of t u v)

  -- and folded
  abbrev pub folded_gain : (noise : ℕ) (t : ℕ → ℕ → ℤ) (k b : ℕ) → ℤ
  folded_gain noise t = spread_of (gain_re_of noise t) (gain_im_of noise t)

  -- t holds B of the differences d
  pub record BinsHeld (d t : ℕ → ℕ → ℤ) : Type 0 where
    pub re : (u v : ℕ) → u < s.side → v < s.half + 1 → tile_re_of t u v ≡ bin_re s d u v
    pub im : (u v : ℕ) → u < s.side → v < s.half + 1 → tile_im_of t u v ≡ bin_im s d u v

-- ---- tiles of side 16

abbrev pub two_way : (d : ℕ → ℕ → ℤ) → (k b : ℕ) → ℤ
two_way = two_way_of side16

abbrev pub apart : {A : Type 0} → (k : ℕ) (own paired : A) → A
apart = apart_of side16

abbrev pub real_of : (z : ℕ → ℤ) (u : ℕ) → ℤ
real_of = real_part side16

abbrev pub imaginary_of : (z : ℕ → ℤ) (u : ℕ) → ℤ
imaginary_of = imaginary_part side16

abbrev pub beside : (t : ℕ → ℕ → ℤ) (v : ℕ) → ℕ → ℤ
beside = beside_of side16

abbrev pub tile_re : (t : ℕ → ℕ → ℤ) (u v : ℕ) → ℤ
tile_re = tile_re_of side16

abbrev pub tile_im : (t : ℕ → ℕ → ℤ) (u v : ℕ) → ℤ
tile_im = tile_im_of side16

abbrev pub fold_re : (g h : ℕ → ℤ) (b : ℕ) → ℤ
fold_re = fold_re_of side16

abbrev pub fold_im : (g h : ℕ → ℤ) (b : ℕ) → ℤ
fold_im = fold_im_of side16

abbrev pub spread : (g h : ℕ → ℕ → ℤ) (k b : ℕ) → ℤ
spread = spread_of side16

abbrev pub counted : (k : ℕ) → ℤ → ℤ
counted = counted_of side16

abbrev pub back_sum : (z : ℕ → ℕ → ℤ) (y x : ℕ) → ℤ
back_sum = back_sum_of side16

abbrev pub Mirrored : (g h : ℕ → ℕ → ℤ) → Type 0
Mirrored = MirroredOf side16

abbrev pub quad_of : (t : ℕ → ℕ → ℤ) (v u : ℕ) → List ℤ
quad_of = quad_places side16

abbrev pub two_bins : (t : ℕ → ℕ → ℤ) (v u : ℕ) → List ℤ
two_bins = two_bins_of side16

abbrev pub gain_re : (noise : ℕ) (t : ℕ → ℕ → ℤ) (u v : ℕ) → ℤ
gain_re = gain_re_of side16

abbrev pub gain_im : (noise : ℕ) (t : ℕ → ℕ → ℤ) (u v : ℕ) → ℤ
gain_im = gain_im_of side16

abbrev pub BinsOf : (d t : ℕ → ℕ → ℤ) → Type 0
BinsOf = BinsHeld side16
