-- Inside this crate: what the frames of a range are, and what they and each part of them require. A buffer that is only measured stands here as its length.
use Rattle.std.specs.Prelude.{◌≡◌, ◌*◌, ◌/◌, ◌≤◌, ◌<◌}
use Rattle.range_frame.specs.Prelude.{List, ℕ, length, ℤ, output_length, Merge, scene_of, low_frame, high_frame, row_words, RowReady, raised, UpperFits, at_noises}
use Rattle.geometry.specs.declared.Shape.{Shape}
use Rattle.merge_tiles.specs.Accepted.{Accepted}
use Rattle.range_tiles.specs.declared.Upper.{Upper}
use Rattle.range_frame.specs.Held.{least_part, EndsHeld}

-- accepted input, two outputs of the right length, and room for two rows of both ends
pub record RangeLent (m : Merge) (upper : Upper) (samples : List ℕ) (vectors : List ℤ) (low high work : ℕ) : Type 0 where
  pub accepted : Accepted 16 m samples vectors
  pub upper_fits : UpperFits upper
  pub low_long : low ≡ output_length m.shape
  pub high_long : high ≡ output_length m.shape
  pub room : 4 * row_words 16 m.shape.width ≤ work

-- the low and the high frame of a burst
pub record FramesRanged (m : Merge) (upper : Upper) (samples : List ℕ) (vectors : List ℤ) (low high : List ℕ) : Type 0 where
  pub low_is : low ≡ low_frame (scene_of m samples vectors) (scene_of (raised m upper) samples vectors)
  pub high_is : high ≡ high_frame (scene_of m samples vectors) (scene_of (raised m upper) samples vectors)

-- the planes of a row parity
pub record ParityReady (m : Merge) (upper : Upper) (samples : List ℕ) (vectors : List ℤ) (rowParity low high work : ℕ) : Type 0 where
  pub lent : RangeLent m upper samples vectors low high work
  pub parity : rowParity < 2

-- the rows between the tile rows `band`, which the work area holds, and `band` + 1
pub record BandReady (m : Merge) (upper : Upper) (samples : List ℕ) (vectors : List ℤ) (rowParity band low high : ℕ) (work : List ℤ) : Type 0 where
  pub lent : RangeLent m upper samples vectors low high (length work)
  pub parity : rowParity < 2
  pub band_below : band < m.shape.height / 16
  pub held : at_noises EndsHeld m upper samples vectors rowParity band work

-- row y of a row parity of both frames, from the two rows of pairs of tiles that the work area holds
pub record RowsReady (s : Shape) (reference rowParity y samples low high : ℕ) (work : List ℤ) : Type 0 where
  pub wide : s.width ≤ 4096
  pub room : 4 * row_words 16 s.width ≤ length work
  pub low_ready : RowReady s reference rowParity y 0 samples low work
  pub high_ready : RowReady s reference rowParity y 0 samples high (least_part s.width work)
