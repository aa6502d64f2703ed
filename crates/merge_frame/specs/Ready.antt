-- Inside this crate: what the merge and each part of it require. A buffer that is only measured stands here as its length.
use Rattle.std.specs.Prelude.{◌≡◌, ◌+◌, ◌-◌, ◌*◌, ◌/◌, ◌≤◌, ◌<◌}
use Rattle.merge_frame.specs.Prelude.{List, ℕ, length, ℤ, Merge, scene_of, Accepted, row_words}
use Rattle.geometry.specs.Shape.{output_length, work_length}
use Rattle.merge_frame.specs.Progress.{Held}

-- the merge: accepted input, and an output and a work area of the right lengths
pub record Lent (m : Merge) (samples : List ℕ) (vectors : List ℤ) (output work : ℕ) : Type 0 where
  pub accepted : Accepted m.shape.side m samples vectors
  pub output_long : output ≡ output_length m.shape
  pub work_long : work ≡ work_length m.shape

-- the rows of the merge from side·first to before side·last: the same, for an output of just these rows, where the work area has room for two rows of pairs of tiles
pub record RowsLent (m : Merge) (samples : List ℕ) (vectors : List ℤ) (first last output work : ℕ) : Type 0 where
  pub accepted : Accepted m.shape.side m samples vectors
  pub ordered : first ≤ last
  pub last_most : last ≤ m.shape.height / m.shape.side
  pub output_long : output ≡ (m.shape.side * last - m.shape.side * first) * m.shape.width
  pub room : 2 * row_words m.shape.side m.shape.width ≤ work

-- the planes of a row parity
pub record ParityReady (m : Merge) (samples : List ℕ) (vectors : List ℤ) (rowParity first last output work : ℕ) : Type 0 where
  pub lent : RowsLent m samples vectors first last output work
  pub parity : rowParity < 2

-- the rows between the tile rows `band`, which the work area holds, and `band` + 1
pub record BandReady (m : Merge) (samples : List ℕ) (vectors : List ℤ) (rowParity first band output : ℕ) (work : List ℤ) : Type 0 where
  pub accepted : Accepted m.shape.side m samples vectors
  pub parity : rowParity < 2
  pub from_first : first ≤ band
  pub band_below : band < m.shape.height / m.shape.side
  pub output_room : (m.shape.side * band + m.shape.side - m.shape.side * first) * m.shape.width ≤ output
  pub room : 2 * row_words m.shape.side m.shape.width ≤ length work
  pub held : Held m.shape.side (scene_of m samples vectors) rowParity band work
