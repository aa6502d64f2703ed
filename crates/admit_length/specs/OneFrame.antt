-- The tests 1 to 7 of the call that aligns one other frame: align's, with 27 before 4, 5 of that frame's vectors alone, and 7 of half the work area.
use Rattle.std.specs.Prelude.{◌∷◌, ◌++◌, ◌-◌, ◌*◌}
use Rattle.admit_length.specs.Prelude.{List, [], ℕ, leb, refuse, Shape, sample_length, length_refusal, frame_parts}
use Rattle.refusals.specs.Numbers as no
use Rattle.admit_length.specs.Order.{burst_tests}

-- refusal 27: of N frames N − 1 are others, numbered from 0 "in rising index"
unfoldable pub other_refusal : Shape → (other : ℕ) → ℕ
other_refusal s other = refuse no.absent_part (leb (s.count - 1) other)

-- a word of work for each sample of a frame, which two pyramids and the coarse vectors fit
unfoldable pub frame_work_length : Shape → ℕ
frame_work_length s = s.width * s.height

-- 4, 5 and 7
unfoldable pub align_frame_lengths : Shape → (samples vectors work : ℕ) → List ℕ
align_frame_lengths s samples vectors work =
    length_refusal no.wrong_sample_length (sample_length s) samples
    ∷ length_refusal no.wrong_vector_length (frame_parts s) vectors
    ∷ length_refusal no.wrong_work_length (frame_work_length s) work
    ∷ []

unfoldable pub align_frame_shape_tests : Shape → (reference other samples vectors work : ℕ) → List ℕ
align_frame_shape_tests s reference other samples vectors work = burst_tests s reference ++ other_refusal s other ∷ align_frame_lengths s samples vectors work
