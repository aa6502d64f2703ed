-- A refusal returns before the first store; acceptance makes both frames and clears.
use Rattle.std.proofs.Common.{rules, sym, ◌∙◌, ◌≡◌, Err, arith}
use Rattle.sequences.specs.ClearLaws.{zeros-length}
use Rattle.refusals.specs.Refused.{refusal_number}
use Rattle.refusals.specs.RefusedLaws.{some-number}
use Rattle.stacker.specs.RangedLaws.{ranged-refused, frames-lent, ranged-accepted}
use Rattle.stacker.proofs.noise_range.range.Goals as goal

pub returns-in_err-range_refusal : goal.returns-in_err-range_refusal
returns-in_err-range_refusal c =
    let r : c.from_residual.result ≡ Err c.in_err-range_refusal.field-0.0 = search rules in
    let some = some-number c.in_err-range_refusal.field-0.0 in
    let h : refusal_number c.in_err-range_refusal.field-0.0 ≡ 0 → ⊥ = λ z. absurd (omega (arith, z, some)) in
    rw r (ranged-refused c.in_err-range_refusal.ensures h)

pub frames-requires : goal.frames-requires
frames-requires c = rw (c.merge_of-m.ensures, c.merge_of-raised.ensures) (frames-lent _ _ _ _ _ _ _ _ _ _ (sym c.in_ok-range_refusal.ensures))

pub returns : goal.returns
returns c =
    let made = rw (c.merge_of-m.ensures, c.merge_of-raised.ensures) at c.frames.ensures in
    ranged-accepted _ _ _ _ _ _ _ _ _ _ (sym c.in_ok-range_refusal.ensures) made.low_is made.high_is (c.clear.ensures ∙ zeros-length _ _ (search rules))
