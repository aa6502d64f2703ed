-- A refusal returns before the first store; acceptance measures and clears.
use Rattle.std.proofs.Common.{rules, refl, sym, ◌∙◌, ◌≡◌, Err, arith}
use Rattle.sequences.specs.ClearLaws.{zeros-length}
use Rattle.refusals.specs.Refused.{refusal_number}
use Rattle.refusals.specs.RefusedLaws.{some-number}
use Rattle.refusals.specs.AfterLaws.{kept, made}
use Rattle.stacker.specs.ResidualLaws.{residual-passed}
use Rattle.stacker.proofs.residuals.residuals.Goals as goal

pub returns-in_err-residual_refusal : goal.returns-in_err-residual_refusal
returns-in_err-residual_refusal c =
    let r : c.from_residual.result ≡ Err c.in_err-residual_refusal.field-0.0 = search rules in
    let some = some-number c.in_err-residual_refusal.field-0.0 in
    let h : refusal_number c.in_err-residual_refusal.field-0.0 ≡ 0 → ⊥ = λ z. absurd (omega (arith, z, some)) in
    let e = c.in_err-residual_refusal.ensures in
    rw r (record { answer = e; result = kept _ _ _ e h; clean = kept _ _ _ e h })

pub measure_frames-requires : goal.measure_frames-requires
measure_frames-requires c = residual-passed _ _ _ _ _ _ (sym c.in_ok-residual_refusal.ensures)

pub returns : goal.returns
returns c =
    let e = c.in_ok-residual_refusal.ensures in
    let done = c.measure_frames.ensures in
    record {
      answer = e;
      result = made _ _ _ e refl done.found;
      clean = made _ _ _ e refl (c.clear.ensures ∙ zeros-length _ _ done.same);
    }
