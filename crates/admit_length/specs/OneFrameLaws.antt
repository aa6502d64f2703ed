-- What these tests let through.
use Rattle.std.specs.Prelude.{◌≡◌, ◌-◌, ◌<◌}
use Rattle.admit_length.specs.Prelude.{refl, ℕ, first, Shape, sample_length, vector_length, frame_parts, BurstFits}
use Rattle.std.proofs.Common.{leb-false}
use Rattle.refusals.specs.Numbers as no
use Rattle.refusals.specs.TestLaws.{among, passed, refuse-not}
use Rattle.geometry.specs.ShapeLaws.{allowed, allowed-side, below-count, right-length}
use Rattle.admit_length.specs.Order.{shape_tests, burst_tests}
use Rattle.admit_length.specs.OneFrame.{other_refusal, frame_work_length, align_frame_lengths, align_frame_shape_tests}

place-in : (s : Shape) (other : ℕ) → other_refusal s other ≡ 0 → other < s.count - 1
unfolding other_refusal
place-in s other e = leb-false (s.count - 1) other (refuse-not no.absent_part _ tt e)

module _ (s : Shape) (reference other samples vectors work : ℕ) (e : first (align_frame_shape_tests s reference other samples vectors work) ≡ 0) where
  -- a burst as for align, whose vectors are not lent here
  pub align-frame-fits : BurstFits s reference samples (vector_length s)
  unfolding shape_tests burst_tests align_frame_lengths align_frame_shape_tests
  align-frame-fits =
      record {
        allowed = allowed s (passed e (search among depth 20)) (passed e (search among depth 20)) (passed e (search among depth 20));
        sided = allowed-side s (passed e (search among depth 20));
        reference_below = below-count s reference (passed e (search among depth 20));
        samples_long = right-length no.wrong_sample_length (sample_length s) samples tt (passed e (search among depth 20));
        vectors_long = refl;
      }

  pub other_in : other < s.count - 1
  unfolding shape_tests burst_tests align_frame_lengths align_frame_shape_tests
  other_in = place-in s other (passed e (search among depth 20))

  pub frame-vectors-long : vectors ≡ frame_parts s
  unfolding shape_tests burst_tests align_frame_lengths align_frame_shape_tests
  frame-vectors-long = right-length no.wrong_vector_length (frame_parts s) vectors tt (passed e (search among depth 20))

  pub frame-work-long : work ≡ frame_work_length s
  unfolding shape_tests burst_tests align_frame_lengths align_frame_shape_tests
  frame-work-long = right-length no.wrong_work_length (frame_work_length s) work tt (passed e (search among depth 20))
