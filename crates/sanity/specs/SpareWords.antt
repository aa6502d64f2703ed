-- Try two bursts that differ only in spare words: align, merge, run, the run that chooses its reference and the residuals of tiles give equal answers and leave equal buffers,
-- whether they refuse or not.
use Rattle.std.specs.Prelude.{◌≡◌, ◌||◌, ◌++◌, ◌-◌, ◌/◌, ◌%◌, ◌<◌}
use Rattle.sanity.specs.Prelude.{refl, sym, ap, ap₂, subst, ◌∙◌, Bool, List, ℕ, zero, suc, arith, ltb, ℤ, length, replicate, zeros, refuse, first, Shape, vector_length, sample_at, finest_level, tile_columns, frame_parts, other_frame, down_at, right_at, word, word_of, vector_list, frame_tiles, residual_length, Allowed, BurstFits, TileSide, Noise, residual, level_tile, field0, residual_sum, pairs, vectors_of, residual_of, field_of, sum_of, aligned_vectors, residual_sums, frame_rows, rows_of, rows_summed, tile_residual, residual_word, tile_residuals, Merge, Tuning, scene_of, scene_at, merged, Alignment, align_refusal, content_tests, run_tests, run_refusal, merge_refusal, merge_of, no_sums, answered, Aligned, Merged, Ran}
use Rattle.std.proofs.Math.Nat.{mul_comm}
use Rattle.sequences.specs.Grid.{tab-ext}
use Rattle.sequences.specs.Place.{row_below}
use Rattle.refusals.specs.Numbers as no
use Rattle.refusals.specs.Some.{some}
use Rattle.refusals.specs.After.{after}
use Rattle.geometry.specs.VectorLaws.{other-below}
use Rattle.admit_value.specs.Bounds.{sample_refusal}
use Rattle.algebra.specs.SumLaws.{sum_n-cong}
use Rattle.sharpness.specs.Sharpness.{sharpest}
use Rattle.sharpness.specs.SharpnessLaws.{sharpest-same}
use Rattle.stacker.specs.declared.Choice.{Choice}
use Rattle.admit_call.specs.Residuals.{residual_refusal}
use Rattle.stacker.specs.AdmissionLaws.{align-passed, run-passed, merge-passed}
use Rattle.stacker.specs.Residuals.{ResidualsFound}
use Rattle.stacker.specs.ResidualLaws.{residual-passed}
use Rattle.stacker.specs.Choosing.{choosing_tests, choosing_refusal, Chosen}
use Rattle.stacker.specs.ChoosingLaws.{first-refusal}
use Rattle.sanity.specs.Frames.{Same}
use Rattle.sanity.specs.FrameLaws.{row_inside}
use Rattle.sanity.specs.PyramidLaws.{pairs-agree}
use Rattle.sanity.specs.Renumbered.{frame-stays}

-- "two bursts that differ only there" (request L9): as many words, and the same samples
pub record SpareOnly (s : Shape) (samples samples₂ : List ℕ) : Type 0 where
  pub long : length samples₂ ≡ length samples
  pub same : (frame row column : ℕ) → frame < s.count → row < s.height → column < s.width → sample_at s samples₂ frame row column ≡ sample_at s samples frame row column

some-ext : (n : ℕ) (f g : ℕ → Bool) → ((i : ℕ) → i < n → f i ≡ g i) → some n f ≡ some n g
unfolding some
some-ext zero f g h = refl
some-ext (suc n) f g h = ap₂ ◌||◌ (some-ext n f g (λ i l. h i (omega arith))) (h n (omega arith))

after-ext : {A : Type 0} (number : ℕ) (held : A) {result result₂ : A} → (number ≡ 0 → result₂ ≡ result) → after number held result₂ ≡ after number held result
unfolding after
after-ext zero held e = e refl
after-ext (suc n) held e = refl

-- what the calls make of the samples
module _ {s : Shape} {samples samples₂ : List ℕ} (d : SpareOnly s samples samples₂) where
  frame_same : (frame : ℕ) → frame < s.count → Same s.height s.width (sample_at s samples₂ frame) (sample_at s samples frame)
  frame_same frame h = record { at = λ row column r c. d.same frame row column h r c }

  test-same : sample_refusal s samples₂ ≡ sample_refusal s samples
  unfolding sample_refusal
  test-same =
      ap (refuse no.sample_value)
      (some-ext s.count _ _ (λ frame f. some-ext s.height _ _ (λ row r. some-ext s.width _ _ (λ column c. ap (ltb 4095) (d.same frame row column f r c)))))

  module _ (reference : ℕ) (ok : Allowed s) (below : reference < s.count) where
    pair_same : (k : ℕ) → k < s.count - 1 →
        pairs s (sample_at s samples₂ reference) (sample_at s samples₂ (other_frame reference k)) ≡ pairs s (sample_at s samples reference) (sample_at s samples (other_frame reference k))
    pair_same k h = pairs-agree s ok _ _ _ _ (frame_same reference below) (frame_same (other_frame reference k) (other-below reference k s.count h))

    field-same : (k : ℕ) → k < s.count - 1 → field_of s reference samples₂ k ≡ field_of s reference samples k
    unfolding field_of vectors_of
    field-same k h = ap (field0 s.side) (pair_same k h)

    sum_same : (k : ℕ) → k < s.count - 1 → sum_of s reference samples₂ k ≡ sum_of s reference samples k
    unfolding sum_of residual_of
    sum_same k h = ap (residual_sum s.side) (pair_same k h)

    vectors-same : aligned_vectors s reference samples₂ ≡ aligned_vectors s reference samples
    unfolding aligned_vectors vector_list word_of vector_length
    vectors-same =
        tab-ext (vector_length s) _ _
        (λ i h. ap (λ f. word (tile_columns s) f (i % frame_parts s))
        (field-same (i / frame_parts s) (row_inside i _ (s.count - 1) (omega (arith, mul_comm (s.count - 1) (frame_parts s))))))

    sums_same : residual_sums s reference samples₂ ≡ residual_sums s reference samples
    unfolding residual_sums
    sums_same = ap (λ l. l ++ replicate (7 - (s.count - 1)) 0) (tab-ext (s.count - 1) _ _ sum_same)

    rows_same : rows_summed s reference samples₂ ≡ rows_summed s reference samples
    unfolding rows_summed rows_of
    rows_same = sum_n-cong (s.count - 1) _ _ (λ k h. ap (frame_rows s.side) (pair_same k h))

    residuals-same : (vectors : List ℤ) → tile_residuals s reference samples₂ vectors ≡ tile_residuals s reference samples vectors
    unfolding tile_residuals residual_word tile_residual residual_length
    residuals-same vectors =
        tab-ext (residual_length s) _ _
        (λ i h.
        let tile = i % frame_tiles s in
        let row = tile / tile_columns s in
        let column = tile % tile_columns s in
        let k = i / frame_tiles s in
        ap (λ p. residual (finest_level s.side).squared (p 0) (level_tile (finest_level s.side) row column) (record { down = down_at s vectors k row column; right = right_at s vectors k row column }))
        (pair_same k (row_below i (s.count - 1) (frame_tiles s) h)))

merge-same : (m : Merge) {samples samples₂ : List ℕ} → SpareOnly m.shape samples samples₂ → Allowed m.shape → TileSide m.shape.side → m.reference < m.shape.count → (vectors : List ℤ) →
    merged (scene_of m samples₂ vectors) ≡ merged (scene_of m samples vectors)
unfolding scene_at
merge-same m {samples} {samples₂} d ok sided below vectors =
    frame-stays m m.reference samples samples₂ vectors vectors {to = λ k. k} {from = λ k. k} sided
    (record {
      order = record { to_below = λ i h. h; from_below = λ i h. h; from_to = λ i h. refl; to_from = λ i h. refl };
      high = ok.high;
      wide = ok.wide;
      reference_same = frame_same d m.reference below;
      other_same = λ k h. frame_same d (other_frame m.reference k) (other-below m.reference k m.shape.count h);
      down_same = λ k a b h i j. refl;
      right_same = λ k a b h i j. refl;
    })

tests_same : {s : Shape} {samples samples₂ : List ℕ} → SpareOnly s samples samples₂ → (reference : ℕ) (noise : Noise) (tuning : Tuning) (vectors : List ℤ) (output : List ℕ) (work : List ℤ) →
    run_tests s reference noise tuning samples₂ vectors output work ≡ run_tests s reference noise tuning samples vectors output work
unfolding run_tests content_tests
tests_same d reference noise tuning vectors output work = rw (d.long, test-same d)

-- what each call leaves: "get equal results" (request L9)
module _ {s : Shape} {reference : ℕ} {samples samples₂ : List ℕ} {vectors work work' work₂' : List ℤ} (d : SpareOnly s samples samples₂) where
  pub align-spare : {vectors' vectors₂' : List ℤ} {r r₂ : Alignment} →
      Aligned s reference samples vectors vectors' work work' r → Aligned s reference samples₂ vectors vectors₂' work work₂' r₂ → (r₂ ≡ r) × (vectors₂' ≡ vectors') × (work₂' ≡ work')
  unfolding align_refusal answered
  align-spare call call₂ =
      let number = align_refusal s reference samples vectors work in
      let tests : align_refusal s reference samples₂ vectors work ≡ number = rw (d.long, test-same d) in
      let fits : number ≡ 0 → BurstFits s reference (length samples) (length vectors) = λ z. (align-passed s reference samples vectors work z).fits.burst in (
        call₂.answer
            ∙ ap (λ n. answered n (residual_sums s reference samples₂) (rows_summed s reference samples₂)) tests
            ∙ ap₂ (λ l m. record { refusal = number; residuals = l; rows = m }) (after-ext number no_sums (λ z. sums_same d reference (fits z).allowed (fits z).reference_below)) (after-ext number 0 (λ z. rows_same d reference (fits z).allowed (fits z).reference_below))
            ∙ sym call.answer,
        call₂.found
            ∙ ap (λ n. after n vectors (aligned_vectors s reference samples₂)) tests
            ∙ after-ext number vectors (λ z. vectors-same d reference (fits z).allowed (fits z).reference_below)
            ∙ sym call.found,
        call₂.clean ∙ ap (λ n. after n work (zeros work)) tests ∙ sym call.clean,
      )

  pub residuals-spare : {residuals residuals' residuals₂' : List ℕ} {number number₂ : ℕ} → ResidualsFound s reference samples vectors residuals residuals' work work' number →
      ResidualsFound s reference samples₂ vectors residuals residuals₂' work work₂' number₂ → (number₂ ≡ number) × (residuals₂' ≡ residuals') × (work₂' ≡ work')
  unfolding residual_refusal
  residuals-spare {residuals} call call₂ =
      let number = residual_refusal s reference samples vectors residuals work in
      let tests : residual_refusal s reference samples₂ vectors residuals work ≡ number = rw (d.long, test-same d) in
      let fits : number ≡ 0 → BurstFits s reference (length samples) (length vectors) = λ z. (residual-passed s reference samples vectors residuals work z).fits.burst in (
        call₂.answer ∙ tests ∙ sym call.answer,
        call₂.result
            ∙ ap (λ n. after n residuals (tile_residuals s reference samples₂ vectors)) tests
            ∙ after-ext number residuals (λ z. residuals-same d reference (fits z).allowed (fits z).reference_below vectors)
            ∙ sym call.result,
        call₂.clean ∙ ap (λ n. after n work (zeros work)) tests ∙ sym call.clean,
      )

  module _ {noise : Noise} {tuning : Tuning} {output output' output₂' : List ℕ} where
    pub merge-spare : {number number₂ : ℕ} → Merged s reference noise tuning samples vectors output output' work work' number →
        Merged s reference noise tuning samples₂ vectors output output₂' work work₂' number₂ → (number₂ ≡ number) × (output₂' ≡ output') × (work₂' ≡ work')
    unfolding merge_refusal
    merge-spare call call₂ =
        let m = merge_of s reference noise tuning in
        let number = merge_refusal s reference noise tuning samples vectors output work in
        let tests : merge_refusal s reference noise tuning samples₂ vectors output work ≡ number = rw (tests_same d reference noise tuning vectors output work) in
        let fits : number ≡ 0 → BurstFits s reference (length samples) (length vectors) = λ z. (run-passed s reference samples vectors noise tuning output work (merge-passed s reference samples vectors noise tuning output work z).0).fits.burst in (
          call₂.answer ∙ tests ∙ sym call.answer,
          call₂.result
              ∙ ap (λ n. after n output (merged (scene_of m samples₂ vectors))) tests
              ∙ after-ext number output (λ z. merge-same m d (fits z).allowed (fits z).sided (fits z).reference_below vectors)
              ∙ sym call.result,
          call₂.clean ∙ ap (λ n. after n work (zeros work)) tests ∙ sym call.clean,
        )

    pub run-spare : {vectors' vectors₂' : List ℤ} {r r₂ : Alignment} → Ran s reference noise tuning samples vectors vectors' output output' work work' r →
        Ran s reference noise tuning samples₂ vectors vectors₂' output output₂' work work₂' r₂ → (r₂ ≡ r) × (vectors₂' ≡ vectors') × (output₂' ≡ output') × (work₂' ≡ work')
    unfolding answered
    run-spare call call₂ =
        let m = merge_of s reference noise tuning in
        let number = run_refusal s reference noise tuning samples vectors output work in
        let tests : run_refusal s reference noise tuning samples₂ vectors output work ≡ number = ap first (tests_same d reference noise tuning vectors output work) in
        let fits : number ≡ 0 → BurstFits s reference (length samples) (length vectors) = λ z. (run-passed s reference samples vectors noise tuning output work z).fits.burst in
        let found : number ≡ 0 → aligned_vectors s reference samples₂ ≡ aligned_vectors s reference samples = λ z. vectors-same d reference (fits z).allowed (fits z).reference_below in (
          call₂.answer
              ∙ ap (λ n. answered n (residual_sums s reference samples₂) (rows_summed s reference samples₂)) tests
              ∙ ap₂ (λ l m. record { refusal = number; residuals = l; rows = m }) (after-ext number no_sums (λ z. sums_same d reference (fits z).allowed (fits z).reference_below)) (after-ext number 0 (λ z. rows_same d reference (fits z).allowed (fits z).reference_below))
              ∙ sym call.answer,
          call₂.found ∙ ap (λ n. after n vectors (aligned_vectors s reference samples₂)) tests ∙ after-ext number vectors found ∙ sym call.found,
          call₂.result
              ∙ ap (λ n. after n output (merged (scene_of m samples₂ (aligned_vectors s reference samples₂)))) tests
              ∙ after-ext number output (λ z. merge-same m d (fits z).allowed (fits z).sided (fits z).reference_below (aligned_vectors s reference samples₂) ∙ ap (λ v. merged (scene_of m samples v)) (found z))
              ∙ sym call.result,
          call₂.clean ∙ ap (λ n. after n work (zeros work)) tests ∙ sym call.clean,
        )

-- the run that chooses its reference (request L1) chooses the same, and does the same with it
module _ {s : Shape} {noise : Noise} {tuning : Tuning} {samples samples₂ : List ℕ} {vectors vectors' vectors₂' work work' work₂' : List ℤ} {output output' output₂' : List ℕ} {r r₂ : Choice}
    (d : SpareOnly s samples samples₂) where
  pub choosing-spare : Chosen s noise tuning samples vectors vectors' output output' work work' r → Chosen s noise tuning samples₂ vectors vectors₂' output output₂' work work₂' r₂ →
      (r₂.reference ≡ r.reference) × (r₂.alignment ≡ r.alignment) × (vectors₂' ≡ vectors') × (output₂' ≡ output') × (work₂' ≡ work')
  unfolding choosing_tests content_tests
  choosing-spare call call₂ =
      let number = choosing_refusal s noise tuning samples vectors output work in
      let tests : choosing_refusal s noise tuning samples₂ vectors output work ≡ number = rw (d.long, test-same d) in
      let ok : number ≡ 0 → Allowed s = λ z. (run-passed s 0 samples vectors noise tuning output work (first-refusal s noise tuning samples vectors output work ∙ z)).fits.burst.allowed in
      let index : r₂.reference ≡ r.reference =
      call₂.chosen
      ∙ ap (λ n. after n 0 (sharpest s samples₂)) tests
      ∙ after-ext number 0 (λ z. sharpest-same s samples samples₂ (ok z) d.same)
      ∙ sym call.chosen in
      let same = run-spare d call.ran (subst (λ i. Ran s i noise tuning samples₂ vectors vectors₂' output output₂' work work₂' r₂.alignment) index call₂.ran) in
      (index, same.0, same.1, same.2, same.3)
