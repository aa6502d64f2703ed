-- What a view of one plane reads: samples of the plane, and tiles of it and of the plane beside it, by the list of its frame's samples.
use Rattle.std.specs.Prelude.{◌≡◌, ◌+◌, ◌*◌, ◌/◌, ◌%◌, ◌^◌, ◌≤◌, ◌<◌, ◌+ℤ◌}
use Rattle.merge_view.specs.Prelude.{List, ℕ, length, take, drop, ℤ, pos, nat_abs, tab, grid, Shape, frame_stride, Image, sample_at, plane_of, inside, read}

-- the row length of a frame of `count` words, whose planes have `height` rows
abbrev pub row_length_of : (count height : ℕ) → ℕ
row_length_of count height = count / (2 * height)

-- the frame of four planes of `height` rows of `width` samples, as a burst of its own
abbrev pub frame_of : (width height row_length : ℕ) → Shape
frame_of width height row_length = record { width = 2 * width; height = 2 * height; count = 1; side = 16; pitch = row_length }

-- the frame whose samples are at hand
abbrev pub frame_image : List ℕ → (width height : ℕ) → Image
frame_image samples width height = sample_at (frame_of width height (row_length_of (length samples) height)) samples 0

-- "Each frame has four planes of W/2 by H/2, by parity of row and column": a plane of that frame
unfoldable pub plane_image : List ℕ → (width height rowParity columnParity : ℕ) → Image
plane_image samples width height rowParity columnParity = plane_of (frame_image samples width height) rowParity columnParity

-- the samples of one frame of a burst
unfoldable pub frame_part : Shape → List ℕ → (frame : ℕ) → List ℕ
frame_part s samples frame = take (frame_stride s) (drop (frame * frame_stride s) samples)

-- "Tiles have side 16", or 32 (request L8): two tiles of a side side by side, of the planes of one row parity of a frame, at an origin that may lie outside.
-- Place 2·j + p of a row is column j of the plane of column parity p, so that inside the planes a row is 2·side samples of the frame one after the other
unfoldable pub pair_of : (side height width : ℕ) → Image → (rowParity : ℕ) → ℤ → ℤ → List (List ℕ)
pair_of side height width frame rowParity y x = grid side (2 * side) (λ i l. read height width (plane_of frame rowParity (l % 2)) (y +ℤ pos i) (x +ℤ pos (l / 2)))

-- "A view of one plane reads the caller's samples": one of them
unfoldable pub plane_sample : ℤ → ℤ → List ℕ → (width height rowParity columnParity : ℕ) → ℕ
plane_sample y x samples width height rowParity columnParity = read height width (plane_image samples width height rowParity columnParity) y x

-- a pair of the frame at row y and column x, and one row of a pair
unfoldable pub plane_pair : (side : ℕ) → ℤ → ℤ → List ℕ → (width height rowParity : ℕ) → List (List ℕ)
plane_pair side y x samples width height rowParity = pair_of side height width (frame_image samples width height) rowParity y x

unfoldable pub pair_row : (side : ℕ) → ℤ → ℤ → List ℕ → (width height rowParity : ℕ) → List ℕ
pair_row side y x samples width height rowParity = tab (2 * side) (λ l. plane_sample y (x +ℤ pos (l / 2)) samples width height rowParity (l % 2))

-- a plane of `height` rows of `width` samples
pub record Planar (width height rowParity columnParity : ℕ) : Type 0 where
  pub wide : 0 < width
  pub high : 0 < height
  pub width-most : width ≤ 2048
  pub height_most : height ≤ 2048
  pub row : rowParity < 2
  pub column : columnParity < 2

-- and `count` words are the frame that it belongs to, in rows of one length
pub record Shaped (count width height rowParity columnParity : ℕ) : Type 0 where
  pub whole : count ≡ 2 * height * row_length_of count height
  pub row_least : 2 * width ≤ row_length_of count height
  pub row-most : row_length_of count height ≤ 4352
  pub planar : Planar width height rowParity columnParity

-- a row or column near enough for sums with a tile's indices
pub record Near (z : ℤ) : Type 0 where
  pub near : nat_abs z ≤ 2 ^ 20

-- where a row of a pair is read: in a frame, by the first of the two planes, from a column that is near enough
pub record RowPlace (count width height rowParity columnParity : ℕ) (x : ℤ) : Type 0 where
  pub shaped : Shaped count width height rowParity columnParity
  pub first : columnParity ≡ 0
  pub near : Near x

-- the rows of a frame, which is small
pub record FrameRows (row_length height rowParity columnParity : ℕ) : Type 0 where
  pub high : 0 < height
  pub row-most : row_length ≤ 4352
  pub height_most : height ≤ 2048
  pub row : rowParity < 2
  pub column : columnParity < 2

-- r is where the row read for y starts: what is read in it lies in the frame
pub record RowStart (y : ℤ) (row_length height rowParity columnParity r : ℕ) : Type 0 where
  pub is : r ≡ (2 * inside height y + rowParity) * row_length + columnParity
  pub room : r + row_length ≤ 2 * height * row_length + columnParity
