-- A refusal returns before the first store; acceptance aligns and clears.
use Rattle.std.proofs.Common.{refl, sym, ◌∙◌, ◌≡◌, arith}
use Rattle.sequences.specs.ClearLaws.{zeros-length}
use Rattle.refusals.specs.Refused.{refusal_number}
use Rattle.refusals.specs.RefusedLaws.{some-number}
use Rattle.refusals.specs.AfterLaws.{kept, made}
use Rattle.stacker.specs.AdmissionLaws.{align-passed}
use Rattle.stacker.specs.CallLaws.{answer-refused, answer-accepted}
use Rattle.stacker.proofs.align.align.Goals as goal

pub returns-in-Err : goal.returns-in-Err
returns-in-Err c =
    let some = some-number c.in-Err.refusal in
    let h : refusal_number c.in-Err.refusal ≡ 0 → ⊥ = λ z. absurd (omega (arith, z, some)) in
    let e = c.in-Err.ensures in
    record { answer = c.refused.ensures ∙ answer-refused _ _ _ e h; found = kept _ _ _ e h; clean = kept _ _ _ e h }

pub align_frames-totals-requires : goal.align_frames-totals-requires
align_frames-totals-requires c = align-passed _ _ _ _ _ (sym c.in_default.ensures)

pub returns : goal.returns
returns c =
    let e = c.in_default.ensures in
    let aligned = c.align_frames-totals.ensures in
    record {
      answer = c.accepted.ensures ∙ answer-accepted _ _ _ e refl aligned.sums_are aligned.rows_are;
      found = made _ _ _ e refl aligned.found;
      clean = made _ _ _ e refl (c.clear.ensures ∙ zeros-length _ _ aligned.same);
    }
