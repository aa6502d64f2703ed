-- A refusal returns before the first store; acceptance aligns and clears.
use Rattle.std.proofs.Common.{refl, sym, ◌∙◌, ◌≡◌, arith}
use Rattle.sequences.specs.ClearLaws.{zeros-length}
use Rattle.refusals.specs.Refused.{refusal_number}
use Rattle.refusals.specs.RefusedLaws.{some-number}
use Rattle.refusals.specs.AfterLaws.{kept, made}
use Rattle.stacker.specs.OneFrameLaws.{align-frame-passed, frame_refused, frame-accepted}
use Rattle.stacker.proofs.one_frame.align_frame.Goals as goal

pub returns-in-Err : goal.returns-in-Err
returns-in-Err c =
    let some = some-number c.in-Err.refusal in
    let h : refusal_number c.in-Err.refusal ≡ 0 → ⊥ = λ z. absurd (omega (arith, z, some)) in
    let e = c.in-Err.ensures in
    let is = c.number.ensures in
    rw is (record { answer = frame_refused _ _ _ e h; found = kept _ _ _ e h; clean = kept _ _ _ e h })

pub align_one-sums-requires : goal.align_one-sums-requires
align_one-sums-requires c = align-frame-passed _ _ _ _ _ _ (sym c.in_default.ensures)

pub returns : goal.returns
returns c =
    let e = c.in_default.ensures in
    let done = c.align_one-sums.ensures in
    record {
      answer = frame-accepted _ _ _ e refl done.sum_is done.rows_are;
      found = made _ _ _ e refl done.found;
      clean = made _ _ _ e refl (c.clear.ensures ∙ zeros-length _ _ done.same);
    }
