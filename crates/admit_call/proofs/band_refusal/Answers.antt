-- 1 to 7, 22, 23 and 27 in one call, then merge's others, 12 last.
use Rattle.std.proofs.Common.{rules, sym, ◌∙◌, ◌≡◌, Err, arith}
use Rattle.refusals.specs.TestLaws.{lone}
use Rattle.refusals.specs.RefusedLaws.{some-number, stopped, continued}
use Rattle.admit_length.specs.BandLaws.{band-fits}
use Rattle.admit_call.specs.Bands.{band_refusal}
use Rattle.admit_call.specs.AdmissionLaws.{refused_as, tested-goes, tested-stops, tested-passes, tested-number}
use Rattle.admit_call.proofs.band_refusal.Goals as goal

pub returns-in_err-band_shape_refusal : goal.returns-in_err-band_shape_refusal
unfolding band_refusal
returns-in_err-band_shape_refusal c =
    let r : c.from_residual.result ≡ Err c.in_err-band_shape_refusal.field-0.0 = search rules in
    rw r (record { answer = refused_as _ _ _ (stopped _ _ _ c.in_err-band_shape_refusal.ensures) })

pub value_refusal-requires : goal.value_refusal-requires
value_refusal-requires c =
    let burst = (band-fits _ _ _ _ _ _ _ _ (sym c.in_ok-band_shape_refusal.ensures)).burst in
    record { allowed = burst.allowed; long = burst.samples_long }

pub returns-in_err-levels : goal.returns-in_err-levels
unfolding band_refusal
returns-in_err-levels c =
    let r : c.from_residual-in_err-levels.result ≡ Err c.in_err-levels.field-0.0 = search rules in
    let e = c.in_err-levels.ensures in
    let some = some-number c.in_err-levels.field-0.0 in
    rw r (record { answer = tested-goes _ _ _ (sym c.in_ok-band_shape_refusal.ensures) (tested-stops _ _ _ (λ z. let n = tested-number _ _ e ∙ z in absurd (omega (arith, n, some))) e) })

pub returns-in_err-vector_refusal : goal.returns-in_err-vector_refusal
unfolding band_refusal
returns-in_err-vector_refusal c =
    let r : c.from_residual-in_err-vector_refusal.result ≡ Err c.in_err-vector_refusal.field-0.0 = search rules in
    rw r (record { answer = refused_as _ _ _ (continued _ _ c.in_ok-band_shape_refusal.ensures (continued _ _ (tested-number _ _ c.in_ok-levels.ensures) (c.in_err-vector_refusal.ensures ∙ lone _))) })

pub returns : goal.returns
unfolding band_refusal
returns c =
    record {
      answer =
          tested-goes _ _ _ (sym c.in_ok-band_shape_refusal.ensures)
          (tested-passes _ _ _ (sym (tested-number _ _ c.in_ok-levels.ensures)) (sym (c.in_ok-vector_refusal.ensures ∙ lone _)) c.in_ok-levels.ensures);
    }
