-- Run's tests and 12, each returning before the first store; then the merge, and the clearing.
use Rattle.std.proofs.Common.{rules, refl, sym, ap₂, subst, ◌∙◌, ◌≡◌, ◌≤◌, Err, arith}
use Rattle.stacker.specs.Prelude.{scene_of, merged, merge_refusal}
use Rattle.sequences.specs.ClearLaws.{zeros-length}
use Rattle.refusals.specs.Refused.{refusal_number}
use Rattle.refusals.specs.RefusedLaws.{some-number}
use Rattle.refusals.specs.TestLaws.{stops, goes, lone}
use Rattle.admit_value.specs.BoundLaws.{vectors_fit}
use Rattle.admit_call.specs.AdmissionLaws.{tested-number, tested-levels}
use Rattle.refusals.specs.AfterLaws.{kept, made}
use Rattle.stacker.specs.AdmissionLaws.{run-passed}
use Rattle.stacker.specs.CloseLaws.{found-close}
use Rattle.stacker.specs.CeilingLaws.{found-capped}
use Rattle.stacker.proofs.merge.merge.Goals as goal

pub returns-in_err-levels : goal.returns-in_err-levels
unfolding merge_refusal
returns-in_err-levels c =
    let r : c.from_residual.result ≡ Err c.in_err-levels.field-0.0 = search rules in
    let some = some-number c.in_err-levels.field-0.0 in
    let h : refusal_number c.in_err-levels.field-0.0 ≡ 0 → ⊥ = λ z. absurd (omega (arith, z, some)) in
    let e = stops _ _ (tested-number _ _ c.in_err-levels.ensures.answer) h in
    rw r (record { answer = e; result = kept _ _ _ e h; clean = kept _ _ _ e h; near = λ z. absurd (h z); ceiling = λ z. absurd (h z) })

pub returns-in_err-vector_refusal : goal.returns-in_err-vector_refusal
unfolding merge_refusal
returns-in_err-vector_refusal c =
    let r : c.from_residual-in_err-vector_refusal.result ≡ Err c.in_err-vector_refusal.field-0.0 = search rules in
    let some = some-number c.in_err-vector_refusal.field-0.0 in
    let h : refusal_number c.in_err-vector_refusal.field-0.0 ≡ 0 → ⊥ = λ z. absurd (omega (arith, z, some)) in
    let e = goes _ _ (tested-number _ _ c.in_ok-levels.ensures.answer) refl (c.in_err-vector_refusal.ensures ∙ lone _) in
    rw r (record { answer = e; result = kept _ _ _ e h; clean = kept _ _ _ e h; near = λ z. absurd (h z); ceiling = λ z. absurd (h z) })

pub merge_frames-requires : goal.merge_frames-requires
merge_frames-requires c =
    let tested = c.in_ok-levels.ensures.answer in
    let ready = run-passed _ _ _ _ _ _ _ _ (sym (tested-number _ _ tested)) in
    record {
      accepted = record {
        burst = ready.fits.burst;
        side_is = refl;
        samples_fit = ready.samples_fit;
        vectors_fit = vectors_fit _ (sym c.in_ok-vector_refusal.ensures);
        shot_most = subst (λ n. n ≤ 65536) (sym (tested-levels _ _ tested refl).0) ready.shot_most;
        read_most = subst (λ n. n ≤ 4194304) (sym (tested-levels _ _ tested refl).1) ready.read_most;
        strength_most = ready.strength_most;
        spatial-most = ready.spatial-most;
        unfiltered = ready.unfiltered;
      };
      output_long = ready.fits.output_long;
      work_long = ready.fits.work_long;
    }

pub returns : goal.returns
unfolding merge_refusal
returns c =
    let tested = c.in_ok-levels.ensures.answer in
    let a = c.args in
    let e = goes _ _ (tested-number _ _ tested) refl (c.in_ok-vector_refusal.ensures ∙ lone _) in
    let is = c.merge_frames.ensures ∙ ap₂ (λ shot read. merged (scene_of (record { shape = a.shape; reference = a.reference; shot = shot; read = read; tuning = a.tuning }) a.samples.now a.vectors.now)) (tested-levels _ _ tested refl).0 (tested-levels _ _ tested refl).1 in
    let ready = run-passed _ _ _ _ _ _ _ _ (sym (tested-number _ _ tested)) in
    record {
      answer = e;
      result = made _ _ _ e refl is;
      clean = made _ _ _ e refl (c.clear.ensures ∙ zeros-length _ _ (search rules));
      near = λ _. found-close _ _ ready.fits.burst.allowed ready.fits.burst.sided ready.unfiltered _ _ _ refl is;
      ceiling = λ _. found-capped _ _ ready.fits.burst ready.samples_fit _ _ _ refl is;
    }
