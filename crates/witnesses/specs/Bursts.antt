-- Each call on a burst accepts document 01's figure, and has an input for each of its refusals. So no call refuses all bursts, and none of its numbers stands idle.
use Rattle.witnesses.specs.Prelude.{refl, sym, ap, ap₂, ◌∙◌, List, [], ℕ, lit≤, length, ℤ, pos, zeros, first, some, size_allowed, count_allowed, size_refusal, count_refusal, reference_refusal, side_allowed, side_refusal, row_allowed, row_refusal, sample_length, vector_length, output_length, work_length, length_refusal, sample_index, sample_at, shape_tests, frame_tests, burst_tests, align_lengths, merge_lengths, align_shape_tests, merge_shape_tests, sample_refusal, vector_refusal, invalid_curve, invalid_iso, invalid_noise, above_limits, noise_tests, levels_of, strength_refusal, black_refusal, spatial_refusal}
use Rattle.std.specs.Prelude.{replicate, ◌≡◌, ◌∷◌, ◌++◌}
use Rattle.std.proofs.lemmas.List.{length-replicate}
use Rattle.refusals.specs.TestLaws.{goes, lone}
use Rattle.refusals.specs.After.{after}
use Rattle.refusals.specs.AfterLaws.{result-made}
use Rattle.admit_length.specs.Residuals.{residual_length, residual_lengths, residual_shape_tests}
use Rattle.admit_value.specs.BoundLaws.{samples-pass, values-samples}
use Rattle.recipe.specs.Scene.{scene_of}
use Rattle.recipe.specs.Merged.{merged}
use Rattle.align_burst.specs.Aligned.{residual_sums}
use Rattle.align_burst.specs.Rows.{rows_summed}
use Rattle.admit_call.specs.Refusals.{align_refusal, filter_side_refusal, content_tests, run_tests, run_refusal, merge_refusal, merge_of}
use Rattle.admit_call.specs.Residuals.{residual_refusal}
use Rattle.stacker.specs.declared.Alignment.{Alignment}
use Rattle.stacker.specs.declared.Choice.{Choice}
use Rattle.stacker.specs.Calls.{answered, Aligned, Merged, Ran}
use Rattle.stacker.specs.Residuals.{ResidualsFound}
use Rattle.stacker.specs.Choosing.{choosing_tests, choosing_refusal, Chosen}
use Rattle.stacker.specs.ChoosingLaws.{first-refusal}
use Rattle.sanity.specs.FlatFigure.{shape, plain, burst, merged-2, vectors-0, residual-102400, residuals-4096}
use Rattle.witnesses.specs.SmallLaws.{append-most, replicate-most}
use Rattle.witnesses.specs.Inputs.{Input, dark, full, vectors, work, residuals, figure, width_96, nine_frames, reference_2, side_24, row_63, one_short, no_vectors, one_over, no_work, iso_24, shot_65, strength_1025, black_256, spatial_257, spatial_at_32, sample_4096, part_173}

-- the number that each call answers
abbrev pub align_number : Input → ℕ
align_number i = align_refusal i.shape i.reference i.samples i.vectors i.work

abbrev pub merge_number : Input → ℕ
merge_number i = merge_refusal i.shape i.reference i.noise i.tuning i.samples i.vectors i.output i.work

abbrev pub run_number : Input → ℕ
run_number i = run_refusal i.shape i.reference i.noise i.tuning i.samples i.vectors i.output i.work

abbrev pub choosing_number : Input → ℕ
choosing_number i = choosing_refusal i.shape i.noise i.tuning i.samples i.vectors i.output i.work

abbrev pub residual_number : (residuals : List ℕ) → Input → ℕ
residual_number residuals i = residual_refusal i.shape i.reference i.samples i.vectors residuals i.work

-- the numbers of some inputs
abbrev pub numbers : (Input → ℕ) → List Input → List ℕ
numbers number [] = []
numbers number (i ∷ is) = number i ∷ numbers number is

pub align-refuses : numbers align_number (width_96 ∷ nine_frames ∷ reference_2 ∷ side_24 ∷ row_63 ∷ one_short ∷ no_vectors ∷ no_work ∷ sample_4096 ∷ []) ≡ 1 ∷ 2 ∷ 3 ∷ 22 ∷ 23 ∷ 4 ∷ 5 ∷ 7 ∷ 11 ∷ []
unfolding plain align_refusal align_shape_tests frame_tests burst_tests shape_tests align_lengths first some size_allowed count_allowed size_refusal count_refusal reference_refusal side_allowed side_refusal row_allowed row_refusal sample_length vector_length work_length length_refusal sample_refusal sample_at sample_index
align-refuses = refl

-- 6 of one residual too many
pub residuals-refuses : numbers (residual_number residuals) (width_96 ∷ nine_frames ∷ reference_2 ∷ side_24 ∷ row_63 ∷ one_short ∷ no_vectors ∷ []) ++ residual_number (9 ∷ residuals) figure ∷ numbers (residual_number residuals) (no_work ∷ sample_4096 ∷ []) ≡ 1 ∷ 2 ∷ 3 ∷ 22 ∷ 23 ∷ 4 ∷ 5 ∷ 6 ∷ 7 ∷ 11 ∷ []
unfolding plain residual_refusal residual_shape_tests burst_tests shape_tests residual_lengths residual_length first some size_allowed count_allowed size_refusal count_refusal reference_refusal side_allowed side_refusal row_allowed row_refusal sample_length vector_length work_length length_refusal sample_refusal sample_at sample_index
residuals-refuses = refl

-- what merge, run and the run that chooses have in common, but for 3
abbrev pub shared : List Input
shared = side_24 ∷ row_63 ∷ one_short ∷ no_vectors ∷ one_over ∷ no_work ∷ iso_24 ∷ shot_65 ∷ strength_1025 ∷ black_256 ∷ spatial_257 ∷ spatial_at_32 ∷ sample_4096 ∷ []

abbrev pub shared_numbers : List ℕ
shared_numbers = 22 ∷ 23 ∷ 4 ∷ 5 ∷ 6 ∷ 7 ∷ 8 ∷ 9 ∷ 10 ∷ 18 ∷ 24 ∷ 25 ∷ 11 ∷ []

pub run-refuses : numbers run_number (width_96 ∷ nine_frames ∷ reference_2 ∷ shared) ≡ 1 ∷ 2 ∷ 3 ∷ shared_numbers
unfolding plain run_tests content_tests merge_shape_tests frame_tests burst_tests shape_tests merge_lengths first some size_allowed count_allowed size_refusal count_refusal reference_refusal side_allowed side_refusal row_allowed row_refusal sample_length vector_length output_length work_length length_refusal sample_refusal sample_at sample_index noise_tests invalid_noise invalid_curve invalid_iso above_limits strength_refusal black_refusal spatial_refusal filter_side_refusal
run-refuses = refl

pub choosing-refuses : numbers choosing_number (width_96 ∷ nine_frames ∷ shared) ≡ 1 ∷ 2 ∷ shared_numbers
unfolding plain choosing_tests content_tests burst_tests shape_tests merge_lengths first some size_allowed count_allowed size_refusal count_refusal side_allowed side_refusal row_allowed row_refusal sample_length vector_length output_length work_length length_refusal sample_refusal sample_at sample_index noise_tests invalid_noise invalid_curve invalid_iso above_limits strength_refusal black_refusal spatial_refusal filter_side_refusal
choosing-refuses = refl

pub merge-refuses : numbers merge_number (width_96 ∷ nine_frames ∷ reference_2 ∷ shared) ≡ 1 ∷ 2 ∷ 3 ∷ shared_numbers
unfolding plain merge_refusal run_tests content_tests merge_shape_tests frame_tests burst_tests shape_tests merge_lengths first some size_allowed count_allowed size_refusal count_refusal reference_refusal side_allowed side_refusal row_allowed row_refusal sample_length vector_length output_length work_length length_refusal sample_refusal sample_at sample_index noise_tests invalid_noise invalid_curve invalid_iso above_limits strength_refusal black_refusal spatial_refusal filter_side_refusal
merge-refuses = refl

-- the figure's samples pass 11
pub samples-small : sample_refusal shape burst ≡ 0
unfolding plain
samples-small =
    samples-pass shape burst (values-samples shape (record { most = append-most 4095 (plain 0) (plain 4) (replicate-most 4095 4096 0 (lit≤ tt)) (replicate-most 4095 4096 4 (lit≤ tt)) }))

lengths-right : (vectors : List ℤ) → length vectors ≡ 50 → first (merge_shape_tests shape 0 (length burst) (length vectors) (length (plain 9)) (length work)) ≡ 0
unfolding plain merge_shape_tests frame_tests burst_tests shape_tests merge_lengths first size_allowed count_allowed size_refusal count_refusal reference_refusal side_allowed side_refusal row_allowed row_refusal sample_length vector_length output_length work_length length_refusal
lengths-right vectors e = rw e

pub noise-passes : first (noise_tests dark) ≡ 0
unfolding noise_tests first invalid_noise invalid_curve above_limits
noise-passes = refl

pub content-passes : first (content_tests shape full burst) ≡ 0
unfolding content_tests first some strength_refusal black_refusal spatial_refusal filter_side_refusal
content-passes = rw samples-small

run-passes : (vectors : List ℤ) → length vectors ≡ 50 → run_refusal shape 0 dark full burst vectors (plain 9) work ≡ 0
unfolding run_tests
run-passes vectors e = sym (goes (merge_shape_tests shape 0 (length burst) (length vectors) (length (plain 9)) (length work)) (noise_tests dark ++ content_tests shape full burst) (sym (lengths-right vectors e)) refl (goes (noise_tests dark) (content_tests shape full burst) (sym noise-passes) refl (sym content-passes)))

-- "vector part outside −172..172"
pub merge-refuses-12 : merge_number part_173 ≡ 12
unfolding merge_refusal first some vector_refusal
merge-refuses-12 = sym (goes (run_tests shape 0 dark full burst part_173.vectors (plain 9) work) _ (sym (run-passes part_173.vectors refl)) refl refl)

residual-lengths : (vectors : List ℤ) → length vectors ≡ 50 → first (residual_shape_tests shape 0 (length burst) (length vectors) (length residuals) (length work)) ≡ 0
unfolding plain residual_shape_tests burst_tests shape_tests residual_lengths residual_length first size_allowed count_allowed size_refusal count_refusal reference_refusal side_allowed side_refusal row_allowed row_refusal sample_length vector_length work_length length_refusal
residual-lengths vectors e = rw e

-- so 12 alone is left
residual-decided : (vectors : List ℤ) → length vectors ≡ 50 → vector_refusal vectors ≡ residual_refusal shape 0 burst vectors residuals work
unfolding residual_refusal first
residual-decided vectors e =
    goes (residual_shape_tests shape 0 (length burst) (length vectors) (length residuals) (length work)) (sample_refusal shape burst ∷ vector_refusal vectors ∷ []) (sym (residual-lengths vectors e)) refl (rw samples-small (lone _))

pub residuals-refuses-12 : residual_number residuals part_173 ≡ 12
unfolding vector_refusal some
residuals-refuses-12 = sym (residual-decided part_173.vectors refl)

-- and the figure passes
align-lengths : first (align_shape_tests shape 0 (length burst) (length vectors) (length work)) ≡ 0
unfolding plain align_shape_tests frame_tests burst_tests shape_tests align_lengths first size_allowed count_allowed size_refusal count_refusal reference_refusal side_allowed side_refusal row_allowed row_refusal sample_length vector_length work_length length_refusal
align-lengths = refl

pub align-number : align_number figure ≡ 0
unfolding align_refusal
align-number = sym (goes (align_shape_tests shape 0 (length burst) (length vectors) (length work)) _ (sym align-lengths) refl (sym samples-small ∙ lone _))

pub run-number : run_number figure ≡ 0
run-number = run-passes vectors refl

pub choosing-number : choosing_number figure ≡ 0
choosing-number = sym (first-refusal shape dark full burst vectors (plain 9) work) ∙ run-number

pub merge-number : merge_number figure ≡ 0
unfolding merge_refusal first some vector_refusal
merge-number = sym (goes (run_tests shape 0 dark full burst vectors (plain 9) work) _ (sym run-number) refl refl)

pub residual-number : residual_number residuals figure ≡ 0
unfolding vector_refusal some
residual-number = sym (residual-decided vectors refl)

-- what they leave, by their contracts
pub cleared : {number : ℕ} {work' : List ℤ} → number ≡ 0 → work' ≡ after number work (zeros work) → work' ≡ replicate 8192 (pos 0)
unfolding zeros
cleared {number} z e = result-made number work (zeros work) z e ∙ ap (λ n. replicate n (pos 0)) (length-replicate 8192 (pos 5))

-- "the sum of finest residuals; the rest of its seven places are 0"
abbrev pub answer : Alignment
answer = record { refusal = 0; residuals = 102400 ∷ 0 ∷ 0 ∷ 0 ∷ 0 ∷ 0 ∷ 0 ∷ []; rows = rows_summed shape 0 burst }

answer-is : {number : ℕ} {r : Alignment} → number ≡ 0 → r ≡ answered number (residual_sums shape 0 burst) (rows_summed shape 0 burst) → r ≡ answer
unfolding answered after
answer-is z e = e ∙ ap₂ (λ number sums. answered number sums (rows_summed shape 0 burst)) z residual-102400

pub align-accepts : {vectors' work' : List ℤ} {r : Alignment} → Aligned shape 0 burst vectors vectors' work work' r →
    (r ≡ answer) × (vectors' ≡ replicate 50 (pos 0)) × (work' ≡ replicate 8192 (pos 0))
align-accepts c = (answer-is align-number c.answer, result-made (align_number figure) vectors _ align-number c.found ∙ vectors-0, cleared align-number c.clean)

pub frame-2 : (vectors : List ℤ) → merged (scene_of (merge_of shape 0 dark full) burst vectors) ≡ plain 2
unfolding levels_of noise_tests first after invalid_noise invalid_curve above_limits
frame-2 vectors = merged-2 vectors

-- "every merged sample is 2"
pub merge-accepts : {output' : List ℕ} {work' : List ℤ} {number : ℕ} → Merged shape 0 dark full burst vectors (plain 9) output' work work' number →
    (number ≡ 0) × (output' ≡ plain 2) × (work' ≡ replicate 8192 (pos 0))
merge-accepts c = (c.answer ∙ merge-number, result-made (merge_number figure) (plain 9) _ merge-number c.result ∙ frame-2 vectors, cleared merge-number c.clean)

pub run-accepts : {vectors' work' : List ℤ} {output' : List ℕ} {r : Alignment} → Ran shape 0 dark full burst vectors vectors' (plain 9) output' work work' r →
    (r ≡ answer) × (vectors' ≡ replicate 50 (pos 0)) × (output' ≡ plain 2) × (work' ≡ replicate 8192 (pos 0))
run-accepts c = (
  answer-is run-number c.answer,
  result-made (run_number figure) vectors _ run-number c.found ∙ vectors-0,
  result-made (run_number figure) (plain 9) _ run-number c.result ∙ frame-2 _,
  cleared run-number c.clean,
)

pub choosing-accepts : {vectors' work' : List ℤ} {output' : List ℕ} {r : Choice} → Chosen shape dark full burst vectors vectors' (plain 9) output' work work' r → r.alignment.refusal ≡ 0
choosing-accepts c = c.number ∙ choosing-number

-- at vectors of 7 down and 7 right
pub residuals-accepts : {residuals' : List ℕ} {work' : List ℤ} {number : ℕ} → ResidualsFound shape 0 burst vectors residuals residuals' work work' number →
    (number ≡ 0) × (residuals' ≡ replicate 25 4096) × (work' ≡ replicate 8192 (pos 0))
residuals-accepts c = (c.answer ∙ residual-number, result-made (residual_number residuals figure) residuals _ residual-number c.result ∙ residuals-4096 vectors, cleared residual-number c.clean)
