-- The fields of a frame's four levels, from the coarsest to the finest.
use Rattle.align_burst.specs.Prelude.{ℕ, Level, finest_level, level1, level2, level3, finest_step, step2to1, step3to2, tile_count, VectorField, Pair, coarsest, finer, residuals}

-- how many rows and columns of tiles a level has
unfoldable pub level_rows : Level → Pair → ℕ
level_rows l p = tile_count l.half p.height

unfoldable pub level_columns : Level → Pair → ℕ
level_columns l p = tile_count l.half p.width

-- the fields of the levels 3 to 0, from the levels' pairs of images
unfoldable pub field3 : (ℕ → Pair) → VectorField
field3 p = coarsest level3 (p 3)

unfoldable pub field2 : (ℕ → Pair) → VectorField
field2 p = finer level2 step3to2 (level_rows level3 (p 3)) (level_columns level3 (p 3)) (p 2) (field3 p)

unfoldable pub field1 : (ℕ → Pair) → VectorField
field1 p = finer level1 step2to1 (level_rows level2 (p 2)) (level_columns level2 (p 2)) (p 1) (field2 p)

-- level 0's with tiles of a side
unfoldable pub field0 : (side : ℕ) → (ℕ → Pair) → VectorField
field0 side p = finer (finest_level side) (finest_step side) (level_rows level1 (p 1)) (level_columns level1 (p 1)) (p 0) (field1 p)

-- "the sum of finest residuals"
unfoldable pub residual_sum : (side : ℕ) → (ℕ → Pair) → ℕ
residual_sum side p = residuals (finest_level side) (p 0) (level_rows (finest_level side) (p 0)) (level_columns (finest_level side) (p 0)) (field0 side p)
