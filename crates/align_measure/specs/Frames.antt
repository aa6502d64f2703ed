-- Inner vocabulary: the residuals of a frame, where their vectors stand, and what the loop over the frames asks and leaves.
use Rattle.std.specs.Prelude.{◌≡◌, ◌+◌, ◌*◌, ◌/◌, ◌%◌, ◌≤◌}
use Rattle.align_measure.specs.Prelude.{false, List, ℕ, length, get_or, ℤ, pos, written, Shape, Image, finest_level, tile_columns, AlignFits, SamplesFit, VectorsFit, frame_tiles, residual_length, Levels, Pair, residual, level_tile, pairs}
use Rattle.geometry.specs.declared.vectors.Vector.{Vector}
use Rattle.align_measure.specs.Residuals.{tile_residuals}

-- the vector at a place of the list
abbrev pub vector_in : List ℤ → ℕ → Vector
vector_in vectors place = record { down = get_or vectors place (pos 0); right = get_or vectors (place + 1) (pos 0) }

-- the residual of a frame's tile number k, whose word is that many behind `to`
unfoldable pub residual_in : (side : ℕ) → Pair → (columns : ℕ) → List ℤ → (to k : ℕ) → ℕ
residual_in side p columns vectors to k = residual false p (level_tile (finest_level side) (k / columns) (k % columns)) (vector_in vectors (2 * (to + k)))

-- n residuals from `to` on lie within the lent words, and their vectors, from twice that place on, within the lent parts
pub record Lent (to n : ℕ) (vectors : List ℤ) (residuals : List ℕ) : Type 0 where
  pub vectors_fit : VectorsFit vectors
  pub vectors_room : 2 * (to + n) ≤ length vectors
  pub room : to + n ≤ length residuals

-- one frame's are written from `to` on, and the reference's pyramid stays
pub record Measured (s : Shape) (reference other : Image) (vectors : List ℤ) (to : ℕ) (d l : List ℕ) (work work' : List ℤ) : Type 0 where
  pub residuals : l ≡ written d to (residual_in s.side (pairs s reference other 0) (tile_columns s) vectors to) (frame_tiles s)
  pub levels : Levels s reference 0 work'
  pub same : length work' ≡ length work

-- a burst that its tests have let through
pub record Ready (s : Shape) (reference : ℕ) (samples : List ℕ) (vectors : List ℤ) (residuals : List ℕ) (work : List ℤ) : Type 0 where
  pub fits : AlignFits s reference (length samples) (length vectors) (length work)
  pub samples_fit : SamplesFit s samples
  pub vectors_fit : VectorsFit vectors
  pub residuals_long : length residuals ≡ residual_length s

-- its residuals are found, and the work area keeps its length
pub record MeasuredBurst (s : Shape) (reference : ℕ) (samples : List ℕ) (vectors : List ℤ) (residuals : List ℕ) (work work' : List ℤ) : Type 0 where
  pub found : residuals ≡ tile_residuals s reference samples vectors
  pub same : length work' ≡ length work
