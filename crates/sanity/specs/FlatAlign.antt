-- Try flat frames: every tile fits everywhere as well, so by the tie rule no vector moves, and the residuals are the difference times the samples.
use Rattle.std.specs.Prelude.{◌≡◌, ◌-◌, ◌*◌, ◌/◌, ◌<◌}
use Rattle.std.proofs.Common.{sym, ◌∙◌}
use Rattle.std.proofs.Math.Path.{ap, ap₂, fun_ext, subst}
use Rattle.sanity.specs.Prelude.{Bool, false, List, ℕ, zero, suc, arith, ℤ, pos, replicate, Shape, vector_length, Image, read, sample_at, other_frame, down_at, right_at, finest_level, level_size, Tile, Vector, still, gap, difference, Pair, row_residual, residual, level_at, level_tile, level_rows, level_columns, residual_sum, level_image, pairs, vectors_of, residual_of, field_of, sum_of, aligned_vectors, tile_residual}
use Rattle.geometry.specs.LevelTiles.{level_tiles}
use Rattle.align_pyramid.specs.Bayer.Bayer.{bayer_sum}
use Rattle.align_pyramid.specs.Halving.Halving.{weighted, halved}
use Rattle.align_pyramid.specs.Pyramid.{quartered, image0, image1, image2, image3}
use Rattle.align_pyramid.specs.Layout.{tiles}
use Rattle.sanity.specs.FrameLaws.{flat-same}
use Rattle.sanity.specs.StillLaws.{sum_same, AtRest, StillField, field-still, sum-still, vectors-still}
use Rattle.sanity.specs.PyramidLaws.{pairs-agree}
use Rattle.sanity.specs.Flat.{FlatBurst}

-- the levels of a flat frame are flat
halved-flat : (height width v : ℕ) → halved height width (λ y x. v) ≡ (λ y x. v)
unfolding halved weighted read
halved-flat height width v = fun_ext (λ row. fun_ext (λ column. omega arith))

quartered-flat : (height width v : ℕ) → quartered height width (λ y x. v) ≡ (λ y x. v)
unfolding quartered
quartered-flat height width v = ap (halved (height / 2) (width / 2)) (halved-flat height width v) ∙ halved-flat (height / 2) (width / 2) v

module _ (s : Shape) (v : ℕ) where
  flat0 : image0 s (λ y x. v) ≡ (λ y x. 4 * v)
  unfolding image0 bayer_sum
  flat0 = fun_ext (λ row. fun_ext (λ column. omega arith))

  flat1 : image1 s (λ y x. v) ≡ (λ y x. 4 * v)
  unfolding image1
  flat1 = ap (halved _ _) flat0 ∙ halved-flat _ _ (4 * v)

  flat2 : image2 s (λ y x. v) ≡ (λ y x. 4 * v)
  unfolding image2
  flat2 = ap (quartered _ _) flat1 ∙ quartered-flat _ _ (4 * v)

  flat3 : image3 s (λ y x. v) ≡ (λ y x. 4 * v)
  unfolding image3
  flat3 = ap (quartered _ _) flat2 ∙ quartered-flat _ _ (4 * v)

  level-flat : (k : ℕ) → level_image k s (λ y x. v) ≡ (λ y x. 4 * v)
  level-flat zero = flat0
  level-flat (suc zero) = flat1
  level-flat (suc (suc zero)) = flat2
  level-flat (suc (suc (suc k))) = flat3

-- two flat images: every vector has the same residual
record FlatPair (p : Pair) (x y : ℕ) : Type 0 where
  reference : (row column : ℤ) → p.reference row column ≡ x
  other : (row column : ℤ) → p.other row column ≡ y

module _ {p : Pair} {x y : ℕ} (f : FlatPair p x y) where
  flat-residual : (squared : Bool) (t : Tile) (v : Vector) → residual squared p t v ≡ t.side * (t.side * difference squared x y)
  unfolding residual row_residual
  flat-residual squared t v =
      sum_same t.side _ _ (λ i h. sum_same t.side _ _ (λ j k. ap₂ (difference squared) (f.reference _ _) (f.other _ _)))

  flat-rest : AtRest p
  flat-rest = record { least = λ squared t v. omega (arith, flat-residual squared t still, flat-residual squared t v) }

flat-pair : (s : Shape) (a b k : ℕ) → FlatPair (pairs s (λ y x. a) (λ y x. b) k) (4 * a) (4 * b)
unfolding pairs read
flat-pair s a b k =
    let taken : Image → ℤ → ℤ → ℕ = read (level_size (level_at s.side k) s.height) (level_size (level_at s.side k) s.width) in
    record { reference = λ row column. ap (λ f. taken f row column) (level-flat s a k); other = λ row column. ap (λ f. taken f row column) (level-flat s b k) }

module _ {s : Shape} {reference : ℕ} {samples : List ℕ} {a : ℕ} {b : ℕ → ℕ} (flat : FlatBurst s reference samples a b) where
  pair_is : (k : ℕ) → k < s.count - 1 → pairs s (sample_at s samples reference) (sample_at s samples (other_frame reference k)) ≡ pairs s (λ y x. a) (λ y x. b k)
  pair_is k h =
      pairs-agree s flat.sampled.allowed _ _ _ _
      (flat-same s samples reference a flat.reference_words)
      (flat-same s samples (other_frame reference k) (b k) (flat.other_words k h))

  -- of each other frame; a tile of side n has n² sums of four samples
  pub field-flat : (k : ℕ) → k < s.count - 1 → StillField (field_of s reference samples k)
  unfolding field_of vectors_of
  field-flat k h = field-still _ _ (λ l. subst (λ p. AtRest (p l)) (sym (pair_is k h)) (flat-rest (flat-pair s a (b k) l)))

  pub sum-flat : (k : ℕ) → k < s.count - 1 → sum_of s reference samples k ≡ tiles (finest_level s.side) s * (s.side * (s.side * gap (4 * a) (4 * b k)))
  unfolding sum_of residual_of tiles level_tiles level_rows level_columns pairs level_tile difference
  sum-flat k h =
      ap (residual_sum s.side) (pair_is k h)
      ∙ sum-still s.side _ (λ l. flat-rest (flat-pair s a (b k) l)) (s.side * (s.side * gap (4 * a) (4 * b k))) (λ row column. flat-residual (flat-pair s a (b k) 0) _ (level_tile (finest_level s.side) row column) still)

  -- of each tile, whatever its vector is
  pub residual-flat : (vectors : List ℤ) (k row column : ℕ) → k < s.count - 1 → tile_residual s reference samples vectors k row column ≡ s.side * (s.side * gap (4 * a) (4 * b k))
  unfolding tile_residual level_tile difference
  residual-flat vectors k row column h =
      ap (λ p. residual false (p 0) (level_tile (finest_level s.side) row column) (record { down = down_at s vectors k row column; right = right_at s vectors k row column })) (pair_is k h)
      ∙ flat-residual (flat-pair s a (b k) 0) false (level_tile (finest_level s.side) row column) _

  -- and all vectors
  pub vectors-flat : aligned_vectors s reference samples ≡ replicate (vector_length s) (pos 0)
  vectors-flat = vectors-still s reference samples flat.sampled.allowed field-flat
