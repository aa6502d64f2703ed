-- Inner vocabulary: a level's two images where they stand in the work area, and a tile of the reference in a local array.
use Rattle.std.specs.Prelude.{◌≡◌, ◌+◌, ◌*◌, ◌%◌, ◌≤◌, ◌+ℤ◌}
use Rattle.align_tile.specs.Prelude.{Bool, false, cond, List, ℕ, ltb, length, ℤ, negsuc, TileSide, ◌plus◌, Within, Pair, residual, Kind}
use Rattle.align_pyramid.specs.Words.{read_in, Source}
use Rattle.align_residual.specs.declared.Tile.{Tile}
use Rattle.geometry.specs.declared.vectors.Vector.{Vector}
use Rattle.align_tile.specs.declared.Area.{Area}
use Rattle.align_tile.specs.declared.Found.{Found}
use Rattle.align_tile.specs.Magnitudes.{guess_most, origin_most}
use Rattle.align_search.specs.declared.window.Best.{Best}
use Rattle.align_search.specs.Offsets.{offset}
use Rattle.align_search.specs.Search.{best_vector, guessed}
use Rattle.align_search.specs.Rows.{search_rows}
use Rattle.align_patch.specs.Copies.{Copied}

-- the images that stand there, read inside and outside
unfoldable pub pair_in : List ℤ → Area → Pair
pair_in words a =
    record { height = a.reference.height; width = a.reference.width; reference = read_in words a.reference; other = read_in words a.other }

pub record Stored (words : List ℤ) (a : Area) : Type 0 where
  pub reference : Source words a.reference
  pub other : Source words a.other

-- a tile of side 8, 16 or 32 that is near the images, so that its samples can be copied
pub record Placed (t : Tile) : Type 0 where
  pub small : t.side ≤ 32
  pub eights : t.side % 8 ≡ 0
  pub near : Within origin_most t.origin

-- the tile's samples of the reference stand in a local array
pub record Ready (words : List ℤ) (a : Area) (t : Tile) (samples : List ℕ) : Type 0 where
  pub stored : Stored words a
  pub placed : Placed t
  pub room : t.side * t.side ≤ length samples
  pub enough : 256 ≤ length samples
  pub copied : Copied samples t.side t.side (pair_in words a).reference t.origin.down t.origin.right

-- and the other image's around the tile moved by a guess, 4 samples further each way
pub record Around (words : List ℤ) (a : Area) (t : Tile) (guess : Vector) (window : List ℕ) : Type 0 where
  pub room : (t.side + 8) * (t.side + 8) ≤ length window
  pub copied : Copied window (t.side + 8) (t.side + 8) (pair_in words a).other (t.origin.down +ℤ guess.down +ℤ negsuc 3) (t.origin.right +ℤ guess.right +ℤ negsuc 3)

-- local arrays of so many values are enough for its samples, for that window, and for a square of the other image
pub record Roomy (t : Tile) (samples window other : ℕ) : Type 0 where
  pub enough : 256 ≤ samples
  pub samples_room : t.side * t.side ≤ samples
  pub window_room : (t.side + 8) * (t.side + 8) ≤ window
  pub other_room : t.side * t.side ≤ other

-- what the sum of a candidate v asks, where the own one's residual is at hand: room for another square
pub record OtherReady (words : List ℤ) (a : Area) (t : Tile) (samples other : List ℕ) (v own : Vector) (first : ℕ) : Type 0 where
  pub ready : Ready words a t samples
  pub sided : TileSide t.side
  pub room : t.side * t.side ≤ length other
  pub near : Within guess_most v
  pub own_near : Within guess_most own
  pub first_is : first ≡ residual false (pair_in words a) t own

-- what the search around a guess asks: room for the window, and few rows before
pub record RefineReady (words : List ℤ) (a : Area) (t : Tile) (samples window : List ℕ) (squared : Bool) (guess : Vector) (before : ℕ) : Type 0 where
  pub ready : Ready words a t samples
  pub kind : Kind squared t.side
  pub room : (t.side + 8) * (t.side + 8) ≤ length window
  pub near : Within guess_most guess
  pub few_before : before ≤ 96

-- and around the best of three candidates
pub record CandidatesReady (words : List ℤ) (a : Area) (t : Tile) (samples window other : List ℕ) (squared : Bool) (own sideways vertically : Vector) : Type 0 where
  pub ready : Ready words a t samples
  pub sided : TileSide t.side
  pub kind : Kind squared t.side
  pub window_room : (t.side + 8) * (t.side + 8) ≤ length window
  pub other_room : t.side * t.side ≤ length other
  pub own_near : Within guess_most own
  pub sideways_near : Within guess_most sideways
  pub vertically_near : Within guess_most vertically

-- the answer for a tile: a vector, its residual, and the rows summed
abbrev pub answer : (squared : Bool) → Pair → Tile → Vector → (rows : ℕ) → Found
answer squared p t v rows = record { vector = v; residual = residual squared p t v; rows = rows }

-- that of the search around a guess, whose best offset is known, after so many rows
pub record Moved (guess : Vector) (best : Best) (before : ℕ) (r : Found) : Type 0 where
  pub vector_is : r.vector ≡ guess plus offset best.offset
  pub residual_is : r.residual ≡ best.residual
  pub rows_are : r.rows ≡ before + best.rows

-- that of the definition, in the images that stand there, after so many rows
abbrev pub refined : (squared : Bool) → List ℤ → Area → Tile → (guess : Vector) → (before : ℕ) → Found
refined squared words a t guess before =
    answer squared (pair_in words a) t (best_vector squared (pair_in words a) t guess) (before + search_rows squared (pair_in words a) t guess)

-- the first of three vectors whose numbers are least
abbrev pub least_of_three : (own sideways vertically : Vector) → (first second third : ℕ) → Vector
least_of_three own sideways vertically first second third =
    cond (ltb second first) (cond (ltb third second) vertically sideways) (cond (ltb third first) vertically own)

-- the guess of three candidates there
abbrev pub guessed_in : List ℤ → Area → Tile → (own sideways vertically : Vector) → Vector
guessed_in words a t own sideways vertically = guessed (pair_in words a) t own sideways vertically
