-- The run that chooses its reference, beside run.
use Rattle.std.specs.Prelude.{◌≡◌, ◌≤◌, ◌<◌}
use Rattle.stacker.specs.Prelude.{refl, sym, ap, ◌∙◌, List, ℕ, zero, suc, arith, ℤ, first, after, Shape, count_allowed, count_refusal, reference_refusal, shape_tests, burst_tests, merge_shape_tests, Noise, levels_of, Tuning, Tested, tested_as, RunTested, run_tests, run_refusal}
use Rattle.std.proofs.Math.Decide.{dec_lt}
use Rattle.std.proofs.lemmas.Bool.{lt-leb}
use Rattle.refusals.specs.Numbers as no
use Rattle.sharpness.specs.SharpnessLaws.{lone-first}
use Rattle.stacker.specs.declared.Alignment.{Alignment}
use Rattle.stacker.specs.declared.Choice.{Choice}
use Rattle.stacker.specs.Calls.{Ran}
use Rattle.stacker.specs.Choosing.{choosing_tests, choosing_refusal, Chosen}

-- a reference below the count passes 3
below-passes : (s : Shape) (reference : ℕ) → reference < s.count → reference_refusal s reference ≡ 0
unfolding reference_refusal
below-passes s reference h = rw (lt-leb s.count reference h)

-- where there is no such reference, 2 stands before it
none-refused : (s : Shape) → s.count < 1 → count_refusal s ≡ no.count
unfolding count_refusal count_allowed
none-refused s h = rw (lt-leb 1 s.count h)

after_same : (number x : ℕ) → after number x x ≡ x
unfolding after
after_same zero x = refl
after_same (suc number) x = refl

module _ (s : Shape) (noise : Noise) (tuning : Tuning) (samples : List ℕ) (vectors : List ℤ) (output : List ℕ) (work : List ℤ) where
  -- "refusals are those run gives with that index", whichever frame's it is
  pub same-refusal : (reference : ℕ) → reference < s.count → run_refusal s reference noise tuning samples vectors output work ≡ choosing_refusal s noise tuning samples vectors output work
  unfolding first shape_tests burst_tests merge_shape_tests run_tests choosing_tests
  same-refusal reference h = rw (below-passes s reference h)

  -- and with index 0 where there is no frame
  pub first-refusal : run_refusal s 0 noise tuning samples vectors output work ≡ choosing_refusal s noise tuning samples vectors output work
  unfolding first shape_tests burst_tests merge_shape_tests run_tests choosing_tests
  first-refusal = by (dec_lt 0 s.count)
    where
      by : Dec (0 < s.count) → run_refusal s 0 noise tuning samples vectors output work ≡ choosing_refusal s noise tuning samples vectors output work
      by (yes p) = same-refusal 0 p
      by (no p) = rw (none-refused s (omega arith))

module _ {s : Shape} {noise : Noise} {tuning : Tuning} {samples : List ℕ} {vectors : List ℤ} {output : List ℕ} {work : List ℤ} where
  -- the tests that were made with index 0 are those of any frame's
  pub tested-any : {tested : Tested} (reference : ℕ) → reference < s.count → RunTested s 0 noise tuning samples vectors output work tested
      → RunTested s reference noise tuning samples vectors output work tested
  tested-any reference h t =
      record {
        answer = t.answer ∙ ap (λ n. tested_as n (levels_of noise)) (first-refusal s noise tuning samples vectors output work ∙ sym (same-refusal s noise tuning samples vectors output work reference h));
      }

  -- Its answer is run's: run with the index that was chosen answers the same and leaves the same in every buffer.
  pub as-run : {vectors' vectors'' work' work'' : List ℤ} {output' output'' : List ℕ} {r : Choice} {ran : Alignment}
      → Chosen s noise tuning samples vectors vectors' output output' work work' r
      → Ran s r.reference noise tuning samples vectors vectors'' output output'' work work'' ran
      → (r.alignment ≡ ran) × (vectors' ≡ vectors'') × (output' ≡ output'') × (work' ≡ work'')
  as-run a b =
      let c = a.ran in
      (c.answer ∙ sym b.answer, c.found ∙ sym b.found, c.result ∙ sym b.result, c.clean ∙ sym b.clean)

  -- "the choosing call of L1 reports 0" (request L4): a lone frame is the reference
  pub lone-chosen : {vectors' work' : List ℤ} {output' : List ℕ} {r : Choice} → Chosen s noise tuning samples vectors vectors' output output' work work' r → s.count ≤ 1
      → r.reference ≡ 0
  lone-chosen c h =
      c.chosen
      ∙ ap (λ n. after (choosing_refusal s noise tuning samples vectors output work) 0 n) (lone-first s samples h)
      ∙ after_same (choosing_refusal s noise tuning samples vectors output work) 0
