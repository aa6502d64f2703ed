-- Laws of the rows summed: on what a level's depend, and the bounds 112,786,248 of a frame and 789,503,736 of a burst.
use Rattle.std.specs.Prelude.{◌≡◌, ◌-◌, ◌*◌, ◌/◌, ◌%◌, ◌≤◌, ◌<◌}
use Rattle.align_burst.specs.Prelude.{ap, List, ℕ, arith, Shape, Allowed, TileSide, Image, sample_at, Level, finest_level, level1, level2, level3, Step, finest_step, step2to1, step3to2, tile_count, level_size, level_tiles, VectorField, other_frame, Pair, level_at, level_tile, from_coarse, coarsest_rows, finer_rows}
use Rattle.std.proofs.Math.Nat.{mul-le-mul}
use Rattle.algebra.specs.SumLaws.{sum_n-cong, sum_n-bound}
use Rattle.std.proofs.Common.{⊎_elim}
use Rattle.align_search.specs.Vectors.{still}
use Rattle.align_search.specs.Rows.{candidate_rows}
use Rattle.align_search.specs.RowLaws.{search-rows-most, candidate-rows-most}
use Rattle.align_burst.specs.Magnitudes.{frame_rows_most, burst_rows_most}
use Rattle.align_burst.specs.Fields.{level_rows, level_columns, field1, field2, field3}
use Rattle.align_level.specs.FieldLaws.{from-coarse-agree}
use Rattle.align_burst.specs.Frames.{pairs}
use Rattle.align_burst.specs.Rows.{rows0, rows1, rows2, rows3, coarse_rows, frame_rows, rows_of, rows_summed}

-- a finer level's depend on the coarse vectors that there are
pub finer-rows-agree : (l : Level) (s : Step) (coarse_rows coarseColumns : ℕ) (p : Pair) (f g : VectorField) → 0 < coarse_rows → 0 < coarseColumns → ((row column : ℕ) → row < coarse_rows → column < coarseColumns → f row column ≡ g row column) → (rows columns : ℕ) → finer_rows l s coarse_rows coarseColumns p f rows columns ≡ finer_rows l s coarse_rows coarseColumns p g rows columns
unfolding finer_rows
finer-rows-agree l s coarse_rows coarseColumns p f g hr hc e rows columns =
    sum_n-cong (rows * columns) _ _
    (λ k h. ap (candidate_rows l.squared p (level_tile l (k / columns) (k % columns))) (from-coarse-agree s coarse_rows coarseColumns p (level_tile l (k / columns) (k % columns)) f g hr hc e (k / columns) (k % columns)))

-- a level's tiles, each within its bound
pub coarsest-rows-most : (l : Level) (p : Pair) (rows columns : ℕ) → coarsest_rows l p rows columns ≤ rows * columns * (81 * l.side)
unfolding coarsest_rows level_tile
coarsest-rows-most l p rows columns =
    sum_n-bound (rows * columns) (81 * l.side) _ (λ k h. search-rows-most l.squared p (level_tile l (k / columns) (k % columns)) still)

pub finer-rows-most : (l : Level) (s : Step) (coarse_rows coarseColumns : ℕ) (p : Pair) (f : VectorField) (rows columns : ℕ) → finer_rows l s coarse_rows coarseColumns p f rows columns ≤ rows * columns * (84 * l.side)
unfolding finer_rows level_tile
finer-rows-most l s coarse_rows coarseColumns p f rows columns =
    sum_n-bound (rows * columns) (84 * l.side) _
    (λ k h. candidate-rows-most l.squared p (level_tile l (k / columns) (k % columns)) (from_coarse s coarse_rows coarseColumns p (level_tile l (k / columns) (k % columns)) f (k / columns) (k % columns)))

-- those of level 0, with tiles of either side, of an image that is small
finest-rows-most : (side : ℕ) → TileSide side → (p : ℕ → Pair) → (p 0).height ≤ 2048 → (p 0).width ≤ 2048 → rows0 side p ≤ 88769856
unfolding rows0 level_rows level_columns tile_count
finest-rows-most side sided p high wide =
    ⊎_elim
    (λ e. rw e (omega (arith, most 16, mul-le-mul {n₁ = tile_count 8 (p 0).height} {m₁ = tile_count 8 (p 0).width} {n₂ = 257} {m₂ = 257} (omega arith) (omega arith))))
    (λ e. rw e (omega (arith, most 32, mul-le-mul {n₁ = tile_count 16 (p 0).height} {m₁ = tile_count 16 (p 0).width} {n₂ = 129} {m₂ = 129} (omega arith) (omega arith))))
    sided.is
  where
    most : (n : ℕ) → rows0 n p ≤ level_rows (finest_level n) (p 0) * level_columns (finest_level n) (p 0) * (84 * n)
    most n = finer-rows-most (finest_level n) (finest_step n) (level_rows level1 (p 1)) (level_columns level1 (p 1)) (p 0) (field1 p) (level_rows (finest_level n) (p 0)) (level_columns (finest_level n) (p 0))

module _ {shape : Shape} (ok : Allowed shape) (sided : TileSide shape.side) (reference other : Image) where
  -- how many tiles a level has, from how many it has each way
  tiles : (k n : ℕ) → ((size : ℕ) → size ≤ 4096 → level_tiles (level_at shape.side k) size ≤ n) → level_rows (level_at shape.side k) (pairs shape reference other k) * level_columns (level_at shape.side k) (pairs shape reference other k) ≤ n * n
  unfolding level_rows level_columns pairs level_tiles
  tiles k n most = mul-le-mul (most shape.height ok.high.most) (most shape.width ok.wide.most)

  finest : rows0 shape.side (pairs shape reference other) ≤ 88769856
  unfolding pairs level_size
  finest = finest-rows-most shape.side sided (pairs shape reference other) (omega (arith, ok.high.most)) (omega (arith, ok.wide.most))

  pub frame-rows-most : rows_of shape reference other ≤ frame_rows_most
  unfolding rows_of frame_rows coarse_rows rows1 rows2 rows3 level_tiles tile_count level_size
  frame-rows-most =
      let p = pairs shape reference other in
      omega (
        arith,
        tiles 1 129 (λ size h. omega arith),
        tiles 2 33 (λ size h. omega arith),
        tiles 3 17 (λ size h. omega arith),
        coarsest-rows-most level3 (p 3) (level_rows level3 (p 3)) (level_columns level3 (p 3)),
        finer-rows-most level2 step3to2 (level_rows level3 (p 3)) (level_columns level3 (p 3)) (p 2) (field3 p) (level_rows level2 (p 2)) (level_columns level2 (p 2)),
        finer-rows-most level1 step2to1 (level_rows level2 (p 2)) (level_columns level2 (p 2)) (p 1) (field2 p) (level_rows level1 (p 1)) (level_columns level1 (p 1)),
        finest,
      )

-- "u64 room for the whole"
pub burst-rows-most : {shape : Shape} → Allowed shape → TileSide shape.side → (reference : ℕ) (samples : List ℕ) → rows_summed shape reference samples ≤ burst_rows_most
unfolding rows_summed
burst-rows-most {shape} ok sided reference samples =
    let few = ok.few in
    omega (
      arith,
      sum_n-bound (shape.count - 1) frame_rows_most _ (λ k h. frame-rows-most ok sided (sample_at shape samples reference) (sample_at shape samples (other_frame reference k))),
      few,
    )
