-- Two tests with one number, of which merge's list has one: both lists of one decide.
use Rattle.std.proofs.Common.{eqb-true, ltb-false}
use Rattle.std.specs.Prelude.{◌≡◌, ◌∷◌, ◌++◌, ◌≤◌}
use Rattle.algebra.specs.Prelude.{refl, sym, Bool, true, false, not, List, [], ℕ, zero, suc, arith, eqb, ltb}
use Rattle.refusals.specs.Numbers as no
use Rattle.refusals.specs.Tests.{refuse, first}
use Rattle.geometry.specs.declared.Shape.{Shape}
use Rattle.geometry.specs.Shape.{size_refusal, count_refusal, reference_refusal, side_allowed, side_refusal, row_refusal, sample_length, vector_length, output_length, work_length, length_refusal}
use Rattle.geometry.specs.Fits.{Allowed, TileSide, MergeFits}
use Rattle.geometry.specs.ShapeLaws.{right-length}
use Rattle.admit_length.specs.Order.{shape_tests, burst_tests, merge_lengths, merge_shape_tests}
use Rattle.admit_length.specs.OrderLaws.{burst-allowed, merge-fits}
use Rattle.refusals.specs.TestLaws.{among, passed, refuse-not}
use Rattle.admit_range.specs.Refusals.{narrow_refusal, range_frame_tests, range_shape_tests, filter_refusal}

module _ (n w : ℕ) where
  -- the list with the second of them, with the first of them, and with both
  abbrev one : Bool → List ℕ → ℕ
  one c ts = first (ts ++ (refuse (suc n) c ∷ w ∷ []))

  abbrev two : (c d : Bool) → List ℕ → ℕ
  two c d ts = first (ts ++ (refuse (suc n) c ∷ refuse (suc n) d ∷ w ∷ []))

  stopped : (c d : Bool) (ts : List ℕ) → one d ts ≡ suc n → two c d ts ≡ suc n
  unfolding first
  stopped true d [] e = refl
  stopped false true [] e = refl
  stopped false false [] e = e
  stopped c d (zero ∷ ts) e = stopped c d ts e
  stopped c d (suc t ∷ ts) e = e

  went_on : (c d : Bool) (ts : List ℕ) → (one d ts ≡ suc n → ⊥) → one c ts ≡ two c d ts
  unfolding first
  went_on c true [] e = absurd (e refl)
  went_on true false [] e = refl
  went_on false false [] e = refl
  went_on c d (zero ∷ ts) e = went_on c d ts e
  went_on c d (suc t ∷ ts) e = refl

  both_one : (c d : Bool) (ts : List ℕ) → two c d ts ≡ 0 → one c ts ≡ 0
  unfolding first
  both_one true d [] e = absurd (omega arith)
  both_one false true [] e = absurd (omega arith)
  both_one false false [] e = e
  both_one c d (zero ∷ ts) e = both_one c d ts e
  both_one c d (suc t ∷ ts) e = absurd (omega arith)

-- what 22 lets through
pub narrow : (s : Shape) → narrow_refusal s ≡ 0 → s.side ≡ 16
unfolding narrow_refusal
narrow s e = eqb-true s.side 16 (not-not (eqb s.side 16) (refuse-not no.side (not (eqb s.side 16)) tt e))
  where
    not-not : (b : Bool) → not b ≡ false → b ≡ true
    not-not true h = refl
    not-not false h = sym h

narrow-allowed : (s : Shape) → s.side ≡ 16 → side_refusal s ≡ 0
unfolding side_refusal side_allowed
narrow-allowed s e = rw e refl

module _ (s : Shape) (reference samples vectors low high work : ℕ) (frame : first (range_frame_tests s reference) ≡ 0) where
  abbrev before_6 : List ℕ
  before_6 = size_refusal s ∷ count_refusal s ∷ reference_refusal s reference ∷ 0 ∷ row_refusal s ∷ length_refusal no.wrong_sample_length (sample_length s) samples ∷ length_refusal no.wrong_vector_length (vector_length s) vectors ∷ []

  abbrev wrong : ℕ → Bool
  wrong n = not (eqb n (output_length s))

  none_here : narrow_refusal s ≡ 0
  unfolding shape_tests range_frame_tests
  none_here = passed frame (search among depth 20)

  none-there : side_refusal s ≡ 0
  none-there = narrow-allowed s (narrow s none_here)

  pub high-refused : first (merge_shape_tests s reference samples vectors high work) ≡ no.wrong_output_length → no.wrong_output_length ≡ first (range_shape_tests s reference samples vectors low high work)
  unfolding shape_tests burst_tests merge_lengths merge_shape_tests range_frame_tests range_shape_tests length_refusal
  high-refused e = rw none_here (sym (stopped 5 (length_refusal no.wrong_work_length (work_length s) work) (wrong low) (wrong high) before_6 (rw none-there at e)))

  pub high-passed : (first (merge_shape_tests s reference samples vectors high work) ≡ no.wrong_output_length → ⊥) → first (merge_shape_tests s reference samples vectors low work) ≡ first (range_shape_tests s reference samples vectors low high work)
  unfolding shape_tests burst_tests merge_lengths merge_shape_tests range_frame_tests range_shape_tests length_refusal
  high-passed e = rw (none_here, none-there) (went_on 5 (length_refusal no.wrong_work_length (work_length s) work) (wrong low) (wrong high) before_6 (rw none-there at e))

-- what 1 to 3, 22 and 23 let through
pub frame-allowed : (s : Shape) (reference : ℕ) → first (range_frame_tests s reference) ≡ 0 → row_refusal s ≡ 0 → (Allowed s) × (TileSide s.side)
unfolding first shape_tests burst_tests range_frame_tests
frame-allowed s reference frame row =
    let sized : size_refusal s ≡ 0 = passed {tests = range_frame_tests s reference} frame (search among depth 20) in
    let counted : count_refusal s ≡ 0 = passed {tests = range_frame_tests s reference} frame (search among depth 20) in
    let third : reference_refusal s reference ≡ 0 = passed {tests = range_frame_tests s reference} frame (search among depth 20) in
    let narrowed : narrow_refusal s ≡ 0 = passed {tests = range_frame_tests s reference} frame (search among depth 20) in
    burst-allowed s reference (rw (sized, counted, third, narrow-allowed s (narrow s narrowed), row) refl)

module _ (s : Shape) (reference samples vectors low high work : ℕ) (all : first (range_shape_tests s reference samples vectors low high work) ≡ 0) where
  side-passed : narrow_refusal s ≡ 0
  unfolding shape_tests range_frame_tests range_shape_tests
  side-passed = passed all (search among depth 20)

  pub range-fits : MergeFits s reference samples vectors low work
  unfolding shape_tests burst_tests merge_lengths merge_shape_tests range_frame_tests range_shape_tests length_refusal
  range-fits =
      merge-fits s reference samples vectors low work
      (rw (narrow-allowed s (narrow s side-passed)) (both_one 5 (length_refusal no.wrong_work_length (work_length s) work) (not (eqb low (output_length s))) (not (eqb high (output_length s))) (size_refusal s ∷ count_refusal s ∷ reference_refusal s reference ∷ 0 ∷ row_refusal s ∷ length_refusal no.wrong_sample_length (sample_length s) samples ∷ length_refusal no.wrong_vector_length (vector_length s) vectors ∷ []) (rw side-passed at all)))

  pub range-side : s.side ≡ 16
  range-side = narrow s side-passed

  pub high_long : high ≡ output_length s
  unfolding shape_tests range_frame_tests range_shape_tests
  high_long = right-length no.wrong_output_length (output_length s) high tt (passed all (search among depth 20))

-- what 24 lets through
pub unfiltered : (s : ℕ) → filter_refusal s ≡ 0 → s ≡ 0
unfolding filter_refusal
unfiltered s e =
    let h : s ≤ 0 = ltb-false 0 s (refuse-not no.spatial_strength (ltb 0 s) tt e) in
    omega arith
