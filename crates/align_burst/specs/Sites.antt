-- Inner vocabulary: where the levels' images and vectors stand in the work area: the reference's pyramid, the other frame's, then the vectors of levels 3 to 1.
use Rattle.std.specs.Prelude.{◌≡◌, ◌+◌, ◌*◌, ◌≤◌, ◌<◌}
use Rattle.align_burst.specs.Prelude.{List, ℕ, zero, suc, length, get_or, ℤ, pos, nat_abs, Shape, Allowed, TileSide, finest_level, level_size, tile_columns, frame_parts, level_tiles, offset, pyramid_length, align_length, written, Sums, Grid, Area, Pair, VectorField, word, level_at, Laid, field_in, rows_in, pair_in, Stored, field_at, Vectors}
use Rattle.align_pyramid.specs.declared.images.Raster.{Raster}
use Rattle.align_pyramid.specs.WordsLaws.{Kept}
use Rattle.align_residual.specs.Magnitudes.{residual_most}
use Rattle.align_field.specs.Magnitudes.{tiles_most}
use Rattle.align_burst.specs.Rows.{coarse_rows, frame_rows}
use Rattle.align_level.specs.Magnitudes.{tile_rows_most}
use Rattle.align_burst.specs.Fields.{field0, field1, residual_sum}

-- a level's number among a pyramid's six images
abbrev pub image_number : ℕ → ℕ
image_number zero = 0
image_number (suc zero) = 1
image_number (suc (suc zero)) = 3
image_number (suc (suc (suc k))) = 5

-- a level's image, in the pyramid that stands from a place on
abbrev pub raster_at : Shape → (level at : ℕ) → Raster
raster_at shape k at =
    record { from = at + offset shape (image_number k); height = level_size (level_at shape.side k) shape.height; width = level_size (level_at shape.side k) shape.width }

unfoldable pub area_at : Shape → ℕ → Area
area_at shape k = record { reference = raster_at shape k 0; other = raster_at shape k (pyramid_length shape) }

unfoldable pub grid_at : Shape → ℕ → (at : ℕ) → Grid
grid_at shape k at = record { at = at; rows = level_tiles (level_at shape.side k) shape.height; columns = level_tiles (level_at shape.side k) shape.width }

abbrev pub after : Grid → ℕ
after g = g.at + 2 * (g.rows * g.columns)

-- the levels' pairs of images that stand there
unfoldable pub pairs_in : Shape → List ℤ → ℕ → Pair
pairs_in shape words k = pair_in words (area_at shape k)

-- the two pyramids stand there
pub record Standing (shape : Shape) (words : List ℤ) : Type 0 where
  pub stored : (k : ℕ) → Stored words (area_at shape k)

-- a level's field, and the rows summed for it, from what stands there
abbrev pub level_in : Shape → List ℤ → (level : ℕ) → Grid → VectorField
level_in shape words level c = field_in shape.side level words (area_at shape level) c

abbrev pub level_rows_in : Shape → List ℤ → (level : ℕ) → Grid → (rows columns : ℕ) → ℕ
level_rows_in shape words level c rows columns = rows_in shape.side level words (area_at shape level) c rows columns

-- behind the pyramids there is room for a level's vectors from `at` on
pub record Site (shape : Shape) (words : List ℤ) (level at : ℕ) : Type 0 where
  pub allowed : Allowed shape
  pub sided : TileSide shape.side
  pub standing : Standing shape words
  pub behind : 2 * pyramid_length shape ≤ at
  pub room : after (grid_at shape level at) ≤ length words

-- they are written there, and the rows summed for them are answered
pub record LaidAt (shape : Shape) (level at : ℕ) (f : VectorField) (n : (rows columns : ℕ) → ℕ) (words words' : List ℤ) (g : Grid) (rows : ℕ) : Type 0 where
  pub grid_is : g ≡ grid_at shape level at
  pub laid : Laid words at g.rows g.columns f (n g.rows g.columns) words' rows

-- behind the pyramids there is room for the vectors of all levels
pub record Prepared (shape : Shape) (words : List ℤ) : Type 0 where
  pub allowed : Allowed shape
  pub sided : TileSide shape.side
  pub standing : Standing shape words
  pub room : align_length shape ≤ length words

-- l is d up to the base, and the vectors of a grid behind it are a field's
pub record Reached (d : List ℤ) (base : ℕ) (g : Grid) (f : VectorField) (l : List ℤ) : Type 0 where
  pub kept : Kept d base l
  pub behind : base ≤ g.at
  pub vectors : Vectors l g
  pub field : (row column : ℕ) → row < g.rows → column < g.columns → field_at l g.at g.columns row column ≡ f row column

-- the vectors of levels 3 to 1 stand behind the pyramids, level 1's in a grid, and the rows summed for them are answered
pub record Coarse (shape : Shape) (words words' : List ℤ) (g : Grid) (rows : ℕ) : Type 0 where
  pub reached : Reached words (2 * pyramid_length shape) g (field1 (pairs_in shape words)) words'
  pub grid_is : g ≡ grid_at shape 1 g.at
  pub rows_are : rows ≡ coarse_rows (pairs_in shape words)
  pub few : rows ≤ 3 * (tiles_most * tile_rows_most)

-- the vectors at level 0 are written from `to` on, with parts of at most 172, the sum of their residuals and the rows summed are answered, and the
-- pyramids stay
pub record Aligned (shape : Shape) (words : List ℤ) (d : List ℤ) (to : ℕ) (words' l : List ℤ) (r : Sums) : Type 0 where
  pub vectors : l ≡ written d to (word (tile_columns shape) (field0 shape.side (pairs_in shape words))) (frame_parts shape)
  pub bound : (k : ℕ) → k < frame_parts shape → nat_abs (get_or l (to + k) (pos 0)) ≤ (finest_level shape.side).bound
  pub residual_is : r.residual ≡ residual_sum shape.side (pairs_in shape words)
  pub most : r.residual ≤ tiles_most * residual_most
  pub rows_are : r.rows ≡ frame_rows shape.side (pairs_in shape words)
  pub kept : Kept words (2 * pyramid_length shape) words'
