-- What the call that aligns one other frame answers, and what it leaves in every lent buffer. Samples are only read.
use Rattle.std.specs.Prelude.{◌≡◌}
use Rattle.stacker.specs.Prelude.{List, ℕ, ℤ, zeros, Shape, after, sum_of, aligned_vectors, count_of, align_frame_refusal}
use Rattle.geometry.specs.Tiles.{frame_parts}
use Rattle.geometry.specs.Vectors.{parts_of}
use Rattle.stacker.specs.declared.one_frame.FrameAlignment.{FrameAlignment}

-- "beside a refusal every other returned field is 0": the answer beside a number
unfoldable pub frame_answered : (number residual rows : ℕ) → FrameAlignment
frame_answered number residual rows = record { refusal = number; residual = after number 0 residual; rows = after number 0 rows }

-- the frame at place `other` "For each other frame in rising index": its parts of what align finds, its sum of residuals, and the rows summed for it
pub record FrameAligned (s : Shape) (reference other : ℕ) (samples : List ℕ) (vectors vectors' work work' : List ℤ) (r : FrameAlignment) : Type 0 where
  pub answer : r ≡ frame_answered (align_frame_refusal s reference other samples vectors work) (sum_of s reference samples other) (count_of s reference samples other)
  pub found : vectors' ≡ after (align_frame_refusal s reference other samples vectors work) vectors (parts_of (frame_parts s) (aligned_vectors s reference samples) other)
  pub clean : work' ≡ after (align_frame_refusal s reference other samples vectors work) work (zeros work)
