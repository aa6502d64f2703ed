-- Inner vocabulary: what the loop over a level's tiles asks of the work area, and what it leaves.
use Rattle.std.specs.Prelude.{◌≡◌, ◌+◌, ◌*◌, ◌/◌, ◌%◌, ◌≤◌, ◌<◌}
use Rattle.align_field.specs.Prelude.{List, ℕ, length, ℤ, finest_level, finest_step, VectorField, word, tile_rows_most, level_at, finer, field_at, answer_at, pair_in, Stored}
use Rattle.algebra.specs.Sums.{sum_n}
use Rattle.align_pyramid.specs.Words.{end_of}
use Rattle.align_tile.specs.declared.Area.{Area}
use Rattle.align_field.specs.Magnitudes.{way_most, tiles_most}
use Rattle.sequences.specs.Write.{written}
use Rattle.align_level.specs.declared.Grid.{Grid}
use Rattle.align_residual.specs.Magnitudes.{residual_most}
use Rattle.align_field.specs.LevelSums.{finer_rows, residuals}
use Rattle.align_field.specs.declared.Sums.{Sums}
use Rattle.align_level.specs.Steps.{step_to}

-- a level's images stand before place n
pub record Before (a : Area) (n : ℕ) : Type 0 where
  pub reference : end_of a.reference ≤ n
  pub other : end_of a.other ≤ n

-- a grid of some columns, and of no more rows and columns than level 0 of a frame of 4096 by 4096 has
pub record Few (rows columns : ℕ) : Type 0 where
  pub some_columns : 0 < columns
  pub few_rows : rows ≤ way_most
  pub few_columns : columns ≤ way_most

-- a level's coarse vectors end before place n; level 3 has none
pub record Ends (level : ℕ) (c : Grid) (n : ℕ) : Type 0 where
  pub end : level ≤ 2 → c.at + 2 * (c.rows * c.columns) ≤ n

-- a level's images stand in the work area, and behind them there is room for its vectors from `to` on
pub record Room (words : List ℤ) (a : Area) (to rows columns : ℕ) : Type 0 where
  pub stored : Stored words a
  pub before : Before a to
  pub few : Few rows columns
  pub room : to + 2 * (rows * columns) ≤ length words

-- a field's vectors are written from `to` on, and the n rows summed for it are answered
pub record Laid (d : List ℤ) (to rows columns : ℕ) (f : VectorField) (n : ℕ) (l : List ℤ) (r : ℕ) : Type 0 where
  pub vectors : l ≡ written d to (word columns f) (2 * (rows * columns))
  pub rows_are : r ≡ n
  pub few : r ≤ tiles_most * tile_rows_most

-- the finest field
unfoldable pub finest_in : (side : ℕ) → List ℤ → Area → Grid → VectorField
finest_in side words a c = finer (finest_level side) (finest_step side) c.rows c.columns (pair_in words a) (field_at words c.at c.columns)

-- a level's field, from the images and the coarse vectors in the work area, and the rows summed for so many rows and columns of tiles
abbrev pub field_in : (side level : ℕ) → List ℤ → Area → Grid → VectorField
field_in side level words a c row column = (answer_at side level words a c row column).vector

abbrev pub rows_in : (side level : ℕ) → List ℤ → Area → Grid → (rows columns : ℕ) → ℕ
rows_in side level words a c rows columns = sum_n (rows * columns) (λ k. (answer_at side level words a c (k / columns) (k % columns)).rows)

-- the rows summed for a level from 2 to 0
abbrev pub finer_rows_in : (side level : ℕ) → List ℤ → Area → Grid → (rows columns : ℕ) → ℕ
finer_rows_in side level words a c rows columns = finer_rows (level_at side level) (step_to side level) c.rows c.columns (pair_in words a) (field_at words c.at c.columns) rows columns

-- its vectors are written from `to` on, and the sum of its residuals and the rows summed are answered
pub record Finest (side : ℕ) (words : List ℤ) (a : Area) (c : Grid) (rows columns : ℕ) (d : List ℤ) (to : ℕ) (l : List ℤ) (r : Sums) : Type 0 where
  pub vectors : l ≡ written d to (word columns (finest_in side words a c)) (2 * (rows * columns))
  pub residual_is : r.residual ≡ residuals (finest_level side) (pair_in words a) rows columns (finest_in side words a c)
  pub most : r.residual ≤ tiles_most * residual_most
  pub rows_are : r.rows ≡ finer_rows_in side 0 words a c rows columns
  pub few : r.rows ≤ tiles_most * tile_rows_most
