-- What a merge reads, and its tiles: T0, Tz, their differences, and the noise number.
use Rattle.std.specs.Prelude.{◌+◌, ◌-◌, ◌*◌, ◌/◌, ◌%◌, ◌+ℤ◌, ◌-ℤ◌}
use Rattle.algebra.specs.Prelude.{List, ℕ, suc, get_or, ℤ, pos}
use Rattle.geometry.specs.Read.{Image, sample_at, plane_of, read}
use Rattle.geometry.specs.Tiles.{origin}
use Rattle.geometry.specs.Vectors.{other_frame, down_at, right_at}
use Rattle.recipe.specs.declared.Tuning.{Tuning}
use Rattle.recipe.specs.declared.Merge.{Merge}
use Rattle.recipe.specs.Side.{Side}
use Rattle.recipe.specs.Sides.{side_of}
use Rattle.recipe.specs.NoiseNumber.{tile_root, noise_number}
use Rattle.recipe.specs.SpatialNoise.{spatial_number}
use Rattle.recipe.specs.Spatial.{FilteredTile}

-- The side of its tiles; `others` = N − 1 frames beside the reference, each of `height` rows of `width` samples; the vector of a tile row and
-- tile column for the k-th of them, as down and right; Ls, Lr and the tuning
pub record Scene : Type 0 where
  pub side : Side
  pub height : ℕ
  pub width : ℕ
  pub others : ℕ
  pub reference : Image
  pub other : (k : ℕ) → Image
  pub down : (k a b : ℕ) → ℤ
  pub right : (k a b : ℕ) → ℤ
  pub shot : ℕ
  pub read : ℕ
  pub tuning : Tuning

-- "Merge tiles lie on each plane at level 0's origins and use its vectors unscaled": a merge with tiles of that side
unfoldable pub scene_at : Side → Merge → (samples : List ℕ) (vectors : List ℤ) → Scene
scene_at side m samples vectors =
    record {
      side = side;
      height = m.shape.height;
      width = m.shape.width;
      others = m.shape.count - 1;
      reference = sample_at m.shape samples m.reference;
      other = λ k. sample_at m.shape samples (other_frame m.reference k);
      down = down_at m.shape vectors;
      right = right_at m.shape vectors;
      shot = m.shot;
      read = m.read;
      tuning = m.tuning;
    }

-- "one side a burst" (request L8)
abbrev pub scene_of : Merge → (samples : List ℕ) (vectors : List ℤ) → Scene
scene_of m = scene_at (side_of m.shape.side) m

-- "a black level for each of the four planes" (request L3), in the pattern's order: R and G in rows of parity 0, G and B in those of parity 1
unfoldable pub black_of : Tuning → (rowParity columnParity : ℕ) → ℕ
black_of tuning rowParity columnParity = get_or tuning.black (2 * rowParity + columnParity) 0

-- Two tiles lie over row (or column) y of a plane: tile t = 0, 1, counted from the last, is this one
abbrev pub tile_over : Side → (y t : ℕ) → ℕ
tile_over n y t = y / n.half + 1 - t

-- the tile of row a and column b on a plane of a frame, moved by a vector
unfoldable pub tile_at : Side → (height width rowParity columnParity : ℕ) (frame : Image) (down right : ℤ) (a b : ℕ) → Image
tile_at n height width rowParity columnParity frame down right a b i j =
    read (height / 2) (width / 2) (plane_of frame rowParity columnParity)
    (origin n.half a +ℤ down +ℤ pos i) (origin n.half b +ℤ right +ℤ pos j)

module _ (s : Scene) (rowParity columnParity : ℕ) where
  module _ (a b : ℕ) where
    -- "T0 is the reference tile, Tz another frame's"
    unfoldable pub reference_tile : Image
    reference_tile = tile_at s.side s.height s.width rowParity columnParity s.reference (pos 0) (pos 0) a b

    unfoldable pub other_tile : (k : ℕ) → Image
    other_tile k = tile_at s.side s.height s.width rowParity columnParity (s.other k) (s.down k a b) (s.right k a b) a b

    -- r of the tile, with its plane's black level
    abbrev pub reference_root : ℕ
    reference_root = tile_root s.side.side (black_of s.tuning rowParity columnParity) reference_tile

    -- V of the tile
    unfoldable pub tile_noise : ℕ
    tile_noise = noise_number s.side s.tuning.strength s.shot s.read reference_root

    -- V' of its bin (u, v) (request L13)
    unfoldable pub tile_spatial : (u v : ℕ) → ℕ
    tile_spatial = spatial_number s.side s.tuning.spatial s.shot s.read reference_root (suc s.others)

    -- "T0−Tz"
    unfoldable pub tile_difference : (k i j : ℕ) → ℤ
    tile_difference k i j = pos (reference_tile i j) -ℤ pos (other_tile k i j)

    -- the tile, as the spatial filter takes it
    unfoldable pub tile_here : FilteredTile
    tile_here = record { noise = tile_noise; spatial = tile_spatial; reference = λ i j. pos (reference_tile i j); differences = tile_difference }

  -- V and "T0−Tz" of the tiles over the plane's sample at row y and column x: four of them, tile t = 0..3 counted from the last
  module _ (y x : ℕ) where
    abbrev pub noise_over : (t : ℕ) → ℕ
    noise_over t = tile_noise (tile_over s.side y (t / 2)) (tile_over s.side x (t % 2))

    abbrev pub difference_over : (t k i j : ℕ) → ℤ
    difference_over t = tile_difference (tile_over s.side y (t / 2)) (tile_over s.side x (t % 2))

    abbrev pub tiles_over : (t : ℕ) → FilteredTile
    tiles_over t = tile_here (tile_over s.side y (t / 2)) (tile_over s.side x (t % 2))
