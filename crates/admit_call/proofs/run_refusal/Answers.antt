-- 1 to 7, 22 and 23 in one call, then the others.
use Rattle.std.proofs.Common.{rules, sym, ◌≡◌, Err}
use Rattle.refusals.specs.RefusedLaws.{stopped}
use Rattle.admit_length.specs.OrderLaws.{merge-fits}
use Rattle.admit_call.specs.Refusals.{run_tests}
use Rattle.admit_call.specs.AdmissionLaws.{refused_as, tested-goes}
use Rattle.admit_call.proofs.run_refusal.Goals as goal

pub returns-in_err-merge_shape_refusal : goal.returns-in_err-merge_shape_refusal
unfolding run_tests
returns-in_err-merge_shape_refusal c =
    let r : c.from_residual.result ≡ Err c.in_err-merge_shape_refusal.field-0.0 = search rules in
    rw r (record { answer = refused_as _ _ _ (stopped _ _ _ c.in_err-merge_shape_refusal.ensures) })

pub value_refusal-requires : goal.value_refusal-requires
value_refusal-requires c =
    let burst = (merge-fits _ _ _ _ _ _ (sym c.in_ok-merge_shape_refusal.ensures)).burst in
    record { allowed = burst.allowed; long = burst.samples_long }

pub returns : goal.returns
unfolding run_tests
returns c = record { answer = tested-goes _ _ _ (sym c.in_ok-merge_shape_refusal.ensures) c.value_refusal.ensures }
