-- What run owes where its tests refuse, and where they pass and the core has run on the levels that they found.
use Rattle.std.specs.Prelude.{◌≡◌, ◌≤◌}
use Rattle.stacker.specs.Prelude.{sym, ap₂, subst, ◌∙◌, List, ℕ, ℤ, Shape, Noise, levels_of, shot_level, read_level, aligned_vectors, Merge, Tuning, scene_of, merged, Tested, RunTested, run_refusal}
use Rattle.refusals.specs.AfterLaws.{kept, made}
use Rattle.align_burst.specs.declared.burst.Totals.{Totals}
use Rattle.pipeline.specs.Levels.{Runnable, RanLevels}
use Rattle.admit_call.specs.AdmissionLaws.{tested-number, tested-levels}
use Rattle.stacker.specs.AdmissionLaws.{run-passed}
use Rattle.stacker.specs.CallLaws.{answer-refused, answer-accepted}
use Rattle.stacker.specs.CloseLaws.{found-close}
use Rattle.stacker.specs.CeilingLaws.{found-capped}
use Rattle.stacker.specs.Calls.{no_sums, Ran}

-- a merge with the levels that the tests found
abbrev pub levelled : Shape → (reference : ℕ) → Tuning → Tested → Merge
levelled s reference tuning tested = record { shape = s; reference = reference; shot = tested.shot; read = tested.read; tuning = tuning }

module _ {s : Shape} {reference : ℕ} {noise : Noise} {tuning : Tuning} {samples : List ℕ} {vectors : List ℤ} {output : List ℕ} {work : List ℤ} {tested : Tested}
    (t : RunTested s reference noise tuning samples vectors output work tested) where
  number : tested.refusal ≡ run_refusal s reference noise tuning samples vectors output work
  number = tested-number _ _ t.answer

  levels : tested.refusal ≡ 0 → (tested.shot ≡ shot_level (levels_of noise)) × (tested.read ≡ read_level (levels_of noise))
  levels = tested-levels _ _ t.answer

  pub ran-refused : (tested.refusal ≡ 0 → ⊥) → Ran s reference noise tuning samples vectors vectors output output work work (record { refusal = tested.refusal; residuals = no_sums; rows = 0 })
  ran-refused h =
      let e = number in
      record {
        answer = answer-refused _ _ _ e h;
        found = kept _ _ _ e h;
        result = kept _ _ _ e h;
        clean = kept _ _ _ e h;
        near = λ z. absurd (h z);
        ceiling = λ z. absurd (h z);
      }

  module _ (z : tested.refusal ≡ 0) where
    pub runnable : Runnable (levelled s reference tuning tested) samples vectors output work
    runnable =
        let ready = run-passed s reference samples vectors noise tuning output work (sym (number) ∙ z) in
        record {
          fits = ready.fits;
          samples_fit = ready.samples_fit;
          shot_most = subst (λ n. n ≤ 65536) (sym (levels z).0) ready.shot_most;
          read_most = subst (λ n. n ≤ 4194304) (sym (levels z).1) ready.read_most;
          strength_most = ready.strength_most;
          spatial-most = ready.spatial-most;
          unfiltered = ready.unfiltered;
        }

    pub ran-accepted : {vectors' work' : List ℤ} {output' : List ℕ} {r : Totals} → RanLevels (levelled s reference tuning tested) samples vectors' output' work work' r →
        Ran s reference noise tuning samples vectors vectors' output output' work work' (record { refusal = 0; residuals = r.residuals; rows = r.rows })
    ran-accepted {vectors'} {work'} {output'} {r} is =
        let e = number in
        let found = aligned_vectors s reference samples in
        let result = is.result ∙ ap₂ (λ shot read. merged (scene_of (record { shape = s; reference = reference; shot = shot; read = read; tuning = tuning }) samples found)) (levels z).0 (levels z).1 in
        record {
          answer = answer-accepted _ _ _ e z is.sums_are is.rows_are;
          found = made _ _ _ e z is.found;
          result = made _ _ _ e z result;
          clean = made _ _ _ e z is.clean;
          near = λ _. found-close _ _ runnable.fits.burst.allowed runnable.fits.burst.sided runnable.unfiltered _ _ _ is.found result;
          ceiling = λ _. found-capped _ _ runnable.fits.burst runnable.samples_fit _ _ _ is.found result;
        }
