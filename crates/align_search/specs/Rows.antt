-- How many tile rows a search sums (request L12).
use Rattle.std.specs.Prelude.{◌+◌, ◌*◌}
use Rattle.align_search.specs.Prelude.{Bool, ℕ, zero, suc, sum_n, first_min, Vector, Tile, Pair, row_residual}
use Rattle.align_search.specs.Trials.Rows.{rows}
use Rattle.align_search.specs.Vectors.{◌plus◌}
use Rattle.align_search.specs.Offsets.{offset}

-- the least of the first k + 1 of some numbers
unfoldable pub least_of : (ℕ → ℕ) → (k : ℕ) → ℕ
least_of f k = f (first_min f k)

-- "Try offsets in tie order, offset zero first": the rows of the k-th, where f k i is the sum of its row i. Before offset zero there is no best.
unfoldable pub offset_rows : (f : ℕ → ℕ → ℕ) → (n k : ℕ) → ℕ
offset_rows f n zero = n
offset_rows f n (suc k) = rows (least_of (λ k. sum_n n (f k)) k) (f (suc k)) n

-- the rows summed in a search around a guess
unfoldable pub search_rows : (squared : Bool) → Pair → Tile → (guess : Vector) → ℕ
search_rows squared p t guess = sum_n 81 (offset_rows (λ k. row_residual squared p t (guess plus offset k)) t.side)

-- "the three candidates are always summed whole": the rows of a tile that has candidates
unfoldable pub candidate_rows : (squared : Bool) → Pair → Tile → (guess : Vector) → ℕ
candidate_rows squared p t guess = 3 * t.side + search_rows squared p t guess
