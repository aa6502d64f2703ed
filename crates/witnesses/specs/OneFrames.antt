-- The call that aligns one other frame accepts document 01's figure, whose only other frame is at place 0, and has an input for each of its refusals.
use Rattle.std.specs.Prelude.{◌≡◌, ◌∷◌}
use Rattle.witnesses.specs.Prelude.{refl, ap, ◌∙◌, List, [], ℕ, lit<, ℤ, pos, replicate, zeros, first, some, size_allowed, count_allowed, size_refusal, count_refusal, reference_refusal, side_allowed, side_refusal, row_allowed, row_refusal, sample_length, vector_length, work_length, length_refusal, sample_index, sample_at, shape_tests, burst_tests, sample_refusal, shape, plain, burst}
use Rattle.refusals.specs.AfterLaws.{result-made}
use Rattle.admit_length.specs.OneFrame.{other_refusal, frame_work_length, align_frame_lengths, align_frame_shape_tests}
use Rattle.admit_call.specs.OneFrame.{align_frame_refusal}
use Rattle.stacker.specs.declared.one_frame.FrameAlignment.{FrameAlignment}
use Rattle.stacker.specs.OneFrame.{frame_answered, FrameAligned}
use Rattle.stacker.specs.FramesWhole.{refused-alike}
use Rattle.witnesses.specs.Inputs.{Input, vectors, work, figure, width_96, nine_frames, reference_2, side_24, row_63, one_short, no_vectors, sample_4096}
use Rattle.witnesses.specs.Bursts.{numbers, align-number}

-- half of align's work area
abbrev pub frame_work : List ℤ
frame_work = replicate 4096 (pos 5)

-- the number that it answers, with that work area
abbrev pub align_frame_number : (other : ℕ) (work : List ℤ) → Input → ℕ
align_frame_number other work i = align_frame_refusal i.shape i.reference other i.samples i.vectors work

pub align-frame-refuses : numbers (align_frame_number 0 frame_work) (width_96 ∷ nine_frames ∷ reference_2 ∷ side_24 ∷ row_63 ∷ one_short ∷ no_vectors ∷ sample_4096 ∷ []) ≡ 1 ∷ 2 ∷ 3 ∷ 22 ∷ 23 ∷ 4 ∷ 5 ∷ 11 ∷ []
unfolding plain align_frame_refusal align_frame_shape_tests other_refusal burst_tests shape_tests align_frame_lengths frame_work_length first some size_allowed count_allowed size_refusal count_refusal reference_refusal side_allowed side_refusal row_allowed row_refusal sample_length length_refusal sample_refusal sample_at sample_index
align-frame-refuses = refl

-- align's work area is too long for it
pub align-frame-refuses-7 : align_frame_number 0 work figure ≡ 7
unfolding plain align_frame_refusal align_frame_shape_tests other_refusal burst_tests shape_tests align_frame_lengths frame_work_length first some size_allowed count_allowed size_refusal count_refusal reference_refusal side_allowed side_refusal row_allowed row_refusal sample_length length_refusal
align-frame-refuses-7 = refl

pub align-frame-refuses-27 : align_frame_number 1 frame_work figure ≡ 27
unfolding align_frame_refusal align_frame_shape_tests other_refusal burst_tests shape_tests first size_allowed count_allowed size_refusal count_refusal reference_refusal side_allowed side_refusal row_allowed row_refusal
align-frame-refuses-27 = refl

pub align-frame-number : align_frame_number 0 frame_work figure ≡ 0
unfolding vector_length work_length frame_work_length
align-frame-number = refused-alike shape 0 0 burst vectors vectors frame_work work (lit< tt) refl refl refl refl ∙ align-number

pub align-frame-accepts : {vectors' work' : List ℤ} {r : FrameAlignment} → FrameAligned shape 0 0 burst vectors vectors' frame_work work' r → (r.refusal ≡ 0) × (work' ≡ zeros frame_work)
unfolding frame_answered
align-frame-accepts c = (ap (λ r. r.refusal) c.answer ∙ align-frame-number, result-made (align_frame_number 0 frame_work figure) frame_work (zeros frame_work) align-frame-number c.clean)
