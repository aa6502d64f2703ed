-- Each row of the frame lies in it, in the output and in the samples.
use Rattle.std.specs.Prelude.{◌+◌, ◌*◌, ◌≤◌, ◌<◌}
use Rattle.merge_gather.specs.Prelude.{ℕ, arith, Shape, row_stride, frame_stride, output_length}
use Rattle.std.proofs.Common.{mul_comm}
use Rattle.sequences.specs.Place.{row_room}

pub output_room : (s : Shape) (row : ℕ) → row < s.height → row * s.width + s.width ≤ output_length s
unfolding output_length
output_room s row h = omega (arith, row_room row s.height s.width h, mul_comm s.width s.height)

pub frame-row-room : (s : Shape) (row : ℕ) → row < s.height → row * row_stride s + row_stride s ≤ frame_stride s
frame-row-room s row h = omega (arith, row_room row s.height (row_stride s) h, mul_comm (row_stride s) s.height)
