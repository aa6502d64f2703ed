-- Run's tests with index 0, which are those of any frame's; then run's core with the frame chosen.
use Rattle.std.proofs.Common.{refl, ◌∙◌, ◌≡◌, arith}
use Rattle.refusals.specs.AfterLaws.{kept, made}
use Rattle.refusals.specs.Refused.{refusal_number}
use Rattle.refusals.specs.RefusedLaws.{some-number}
use Rattle.admit_call.specs.AdmissionLaws.{tested-number}
use Rattle.stacker.specs.RanLaws.{ran-refused, runnable, ran-accepted}
use Rattle.stacker.specs.ChoosingLaws.{first-refusal, tested-any}
use Rattle.stacker.proofs.choose.run_sharpest.Goals as goal

pub returns-in-Err : goal.returns-in-Err
returns-in-Err c =
    let some = some-number c.in-Err.refusal in
    let h : refusal_number c.in-Err.refusal ≡ 0 → ⊥ = λ z. absurd (omega (arith, z, some)) in
    let t = c.in-Err.ensures in
    let e = tested-number _ _ t.answer ∙ first-refusal _ _ _ _ _ _ _ in
    rw c.refused.ensures (record { number = e; chosen = kept _ _ _ e h; ran = ran-refused t h })

pub sharpest-reference-requires : goal.sharpest-reference-requires
sharpest-reference-requires c =
    let ready = runnable c.in-Ok.ensures refl in
    (record { allowed = ready.fits.burst.allowed; long = ready.fits.burst.samples_long }, ready.samples_fit)

pub run_levels-totals-requires : goal.run_levels-totals-requires
run_levels-totals-requires c = runnable (tested-any _ c.sharpest-reference.ensures.1 c.in-Ok.ensures) refl

pub returns : goal.returns
returns c =
    let t = c.in-Ok.ensures in
    let e = tested-number _ _ t.answer ∙ first-refusal _ _ _ _ _ _ _ in
    rw c.accepted.ensures (record {
      number = e;
      chosen = made _ _ _ e refl c.sharpest-reference.ensures.0;
      ran = ran-accepted (tested-any _ c.sharpest-reference.ensures.1 t) refl c.run_levels-totals.ensures;
    })
