-- Inner vocabulary: the search in local arrays: a tile's square, and its window's, which reaches 4 samples further each way.
use Rattle.align_search.specs.Prelude.{Bool, true, false, List, ℕ, get_or, sum_n, first_min, residual_most, square_row, Low}
use Rattle.std.specs.Prelude.{◌⊎◌, ◌≡◌, ◌+◌, ◌*◌, ◌≤◌, ◌<◌}
use Rattle.align_search.specs.declared.window.Best.{Best}
use Rattle.align_search.specs.Table.{downs, rights}
use Rattle.align_search.specs.Rows.{offset_rows}

-- row i at the offset number k, in a window that reaches 4 samples further than the tile each way
unfoldable pub window_row : (squared : Bool) → (tile window : List ℕ) → (side k i : ℕ) → ℕ
window_row squared tile window side k = square_row squared tile window (get_or downs k 0 * (side + 8) + get_or rights k 0) (side + 8) side

pub record Window (tile window : List ℕ) (side : ℕ) : Type 0 where
  pub tile_low : Low tile (side * side)
  pub window_low : Low window ((side + 8) * (side + 8))

-- the narrow tiles that there are: of side 8 by squared differences, and of side 16 by either
pub record Narrow (squared : Bool) (side : ℕ) : Type 0 where
  pub is : ((side ≡ 8) × (squared ≡ true)) ⊎ (side ≡ 16)

-- and the wide ones: of side 32 by absolute differences (request L8)
pub record Kind (squared : Bool) (side : ℕ) : Type 0 where
  pub is : (Narrow squared side) ⊎ ((side ≡ 32) × (squared ≡ false))

-- the first least of the 81 totals, where row i of offset k has the sum f k i, and the rows summed
pub record Searched (f : ℕ → ℕ → ℕ) (n : ℕ) (r : Best) : Type 0 where
  pub is : r.offset ≡ first_min (λ k. sum_n n (f k)) 80
  pub low : r.residual ≡ sum_n n (f r.offset)
  pub within : r.offset < 81
  pub most : r.residual ≤ residual_most
  pub rows_are : r.rows ≡ sum_n 81 (offset_rows f n)
