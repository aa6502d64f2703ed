-- Inner vocabulary: a coarse level's vectors where they stand in the work area, and the answers for a level's tiles.
use Rattle.std.specs.Prelude.{◌≡◌, ◌+◌, ◌*◌, ◌≤◌, ◌<◌}
use Rattle.align_level.specs.Prelude.{List, ℕ, zero, suc, length, get_or, ℤ, pos, nat_abs, level3, VectorField, still, search_rows, candidate_rows, guessed, Pair, Tile, Vector, Found, TileSide, pair_in, Stored, Placed, answer}
use Rattle.align_level.specs.declared.Grid.{Grid}
use Rattle.align_tile.specs.declared.Area.{Area}
use Rattle.align_level.specs.Magnitudes.{coarse_most, found_most, tile_rows_most}
use Rattle.align_residual.specs.Magnitudes.{residual_most}
use Rattle.align_tile.specs.Magnitudes.{guess_most}
use Rattle.align_patch.specs.Bounds.{Within}
use Rattle.align_level.specs.Fields.{level_at, level_tile, coarsest, from_coarse, finer}
use Rattle.align_level.specs.Steps.{step_to}

-- the field whose vectors stand from `at` on, row by row of so many columns
unfoldable pub field_at : List ℤ → (at columns : ℕ) → VectorField
field_at words at columns row column =
    record { down = get_or words (at + 2 * (row * columns + column)) (pos 0); right = get_or words (at + 2 * (row * columns + column) + 1) (pos 0) }

-- such vectors stand there, with small parts
pub record Vectors (words : List ℤ) (c : Grid) : Type 0 where
  pub some_rows : 0 < c.rows
  pub some_columns : 0 < c.columns
  pub room : c.at + 2 * (c.rows * c.columns) ≤ length words
  pub most : (k : ℕ) → k < 2 * (c.rows * c.columns) → nat_abs (get_or words (c.at + k) (pos 0)) ≤ coarse_most

-- the answer for a tile of level 3
abbrev pub coarsest_answer : List ℤ → Area → (row column : ℕ) → Found
coarsest_answer words a row column =
    answer level3.squared (pair_in words a) (level_tile level3 row column) (coarsest level3 (pair_in words a) row column) (search_rows level3.squared (pair_in words a) (level_tile level3 row column) still)

-- the field of a level from 2 to 0, from the images and the coarse vectors in the work area
abbrev pub finer_in : (side level : ℕ) → List ℤ → Area → Grid → VectorField
finer_in side level words a c = finer (level_at side level) (step_to side level) c.rows c.columns (pair_in words a) (field_at words c.at c.columns)

-- its guess for a tile, and the answer
abbrev pub guess_from : (side level : ℕ) → List ℤ → Area → Grid → Tile → (row column : ℕ) → Vector
guess_from side level words a c t row column = from_coarse (step_to side level) c.rows c.columns (pair_in words a) t (field_at words c.at c.columns) row column

abbrev pub finer_answer : (side level : ℕ) → List ℤ → Area → Grid → (row column : ℕ) → Found
finer_answer side level words a c row column =
    let l = level_at side level in
    answer l.squared (pair_in words a) (level_tile l row column) (finer_in side level words a c row column)
    (candidate_rows l.squared (pair_in words a) (level_tile l row column) (guess_from side level words a c (level_tile l row column) row column))

-- the coarse vectors of a level stand there; level 3 has none
pub record Led (words : List ℤ) (level : ℕ) (c : Grid) : Type 0 where
  pub level_most : level ≤ 3
  pub vectors : level ≤ 2 → Vectors words c

-- the answer for a tile of any level
abbrev pub answer_at : (side level : ℕ) → List ℤ → Area → Grid → (row column : ℕ) → Found
answer_at side zero words a c row column = finer_answer side 0 words a c row column
answer_at side (suc zero) words a c row column = finer_answer side 1 words a c row column
answer_at side (suc (suc zero)) words a c row column = finer_answer side 2 words a c row column
answer_at side (suc (suc (suc k))) words a c row column = coarsest_answer words a row column

-- it is answered, and how large it is
pub record Answered (f r : Found) : Type 0 where
  pub is : r ≡ f
  pub near : Within found_most r.vector
  pub most : r.residual ≤ residual_most
  pub few : r.rows ≤ tile_rows_most

-- what is asked where a level's tile is at hand
pub record LevelTile (words : List ℤ) (a : Area) (t : Tile) (side level : ℕ) (c : Grid) (row column : ℕ) : Type 0 where
  pub tile_is : t ≡ level_tile (level_at side level) row column
  pub stored : Stored words a
  pub placed : Placed t
  pub sided : TileSide side
  pub led : Led words level c
  pub row-most : row ≤ 4096
  pub column-most : column ≤ 4096

-- buffers for the samples of a tile of any level, of the window around it and of another square
pub record Buffers (samples window other : ℕ) : Type 0 where
  pub samples_room : 1024 ≤ samples
  pub window_room : 1600 ≤ window
  pub other_room : 1024 ≤ other

-- the vectors that a tile's guess is chosen from at a level from 2 to 0, and how large they are
pub record Chosen (side level : ℕ) (words : List ℤ) (c : Grid) (row column : ℕ) (own sideways vertically : Vector) : Type 0 where
  pub guess : (p : Pair) (t : Tile) → guessed p t own sideways vertically ≡ from_coarse (step_to side level) c.rows c.columns p t (field_at words c.at c.columns) row column
  pub own_near : Within guess_most own
  pub sideways_near : Within guess_most sideways
  pub vertically_near : Within guess_most vertically
