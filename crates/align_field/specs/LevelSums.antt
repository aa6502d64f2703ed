-- What a level's tiles add up to: their residuals, and "how many tile rows it summed in all" (request L12).
use Rattle.std.specs.Prelude.{◌*◌, ◌/◌, ◌%◌}
use Rattle.align_field.specs.Prelude.{ℕ, Level, Step, VectorField, numbered, search_rows, candidate_rows, level_tile, from_coarse}
use Rattle.algebra.specs.Sums.{sum_n}
use Rattle.align_search.specs.Vectors.{still}
use Rattle.align_residual.specs.Residual.{Pair, residual}

-- a level's sum of residuals, over its tiles
unfoldable pub residuals : Level → Pair → (rows columns : ℕ) → VectorField → ℕ
residuals l p rows columns f =
    sum_n (rows * columns) (λ k. residual l.squared p (level_tile l (k / columns) (k % columns)) (numbered columns f k))

-- level 3, which has no candidates
unfoldable pub coarsest_rows : Level → Pair → (rows columns : ℕ) → ℕ
coarsest_rows l p rows columns = sum_n (rows * columns) (λ k. search_rows l.squared p (level_tile l (k / columns) (k % columns)) still)

-- a finer level: the candidates of each tile and the search around its guess
unfoldable pub finer_rows : Level → Step → (coarse_rows coarseColumns : ℕ) → Pair → VectorField → (rows columns : ℕ) → ℕ
finer_rows l s coarse_rows coarseColumns p coarse rows columns =
    sum_n (rows * columns)
    (λ k.
    let row = k / columns in
    let column = k % columns in
    candidate_rows l.squared p (level_tile l row column) (from_coarse s coarse_rows coarseColumns p (level_tile l row column) coarse row column))
