-- A refusal returns before the first store; acceptance merges the band's rows and clears.
use Rattle.std.proofs.Common.{rules, refl, ◌∙◌, ◌≡◌, Err, arith}
use Rattle.sequences.specs.ClearLaws.{zeros-length}
use Rattle.refusals.specs.Refused.{refusal_number}
use Rattle.refusals.specs.RefusedLaws.{some-number}
use Rattle.stacker.specs.BandedLaws.{banded-refused, band-lent, banded-accepted}
use Rattle.stacker.proofs.band.merge_band.Goals as goal

pub returns-in_err-levels : goal.returns-in_err-levels
returns-in_err-levels c =
    let r : c.from_residual.result ≡ Err c.in_err-levels.field-0.0 = search rules in
    let some = some-number c.in_err-levels.field-0.0 in
    let h : refusal_number c.in_err-levels.field-0.0 ≡ 0 → ⊥ = λ z. absurd (omega (arith, z, some)) in
    rw r (banded-refused c.in_err-levels.ensures h)

pub band_rows-requires : goal.band_rows-requires
band_rows-requires c = band-lent c.in_ok-levels.ensures refl

pub returns : goal.returns
returns c = banded-accepted c.in_ok-levels.ensures refl c.band_rows.ensures (c.clear.ensures ∙ zeros-length _ _ (search rules))
