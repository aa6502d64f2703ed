-- What acceptance by 1, 2, 3, 23 and 4 says of the burst and the frame.
use Rattle.std.specs.Prelude.{◌≡◌}
use Rattle.file_dng.specs.Prelude.{ℕ, first, Shape, sample_length, shape_tests, frame_tests, FrameFits}
use Rattle.refusals.specs.Numbers as no
use Rattle.refusals.specs.TestLaws.{among, passed}
use Rattle.geometry.specs.ShapeLaws.{allowed, below-count, right-length}
use Rattle.file_dng.specs.Refusals.{room_tests}

pub frame-fits : (s : Shape) (frame room : ℕ) → first (room_tests s frame room) ≡ 0 → FrameFits s frame room
unfolding room_tests frame_tests shape_tests
frame-fits s frame room e =
    record {
      allowed = allowed s (passed e (search among depth 20)) (passed e (search among depth 20)) (passed e (search among depth 20));
      below = below-count s frame (passed e (search among depth 20));
      long = right-length no.wrong_sample_length (sample_length s) room tt (passed e (search among depth 20));
    }
