-- The head's refusal, or that of the frames behind it.
use Rattle.std.proofs.Common.{rules, sym, ap, ◌∙◌, ◌≡◌, Err}
use Rattle.file_burst.specs.Prelude.{Part, number_of, ◌then◌, Header}
use Rattle.file_burst.specs.Reading.{body_of, reading}
use Rattle.file_burst.proofs.Bodies.{head-allowed, body-unmeasured}
use Rattle.file_burst.proofs.file.check.Goals as goal

pub returns-in_err-head : goal.returns-in_err-head
unfolding reading
returns-in_err-head c =
    let r : c.from_residual.result ≡ Err c.in_err-head.field-0.0 = search rules in
    rw r (ap (λ (p : Part Header). number_of (p then body_of (λ shape. 0))) c.in_err-head.ensures)

pub check_frames-requires : goal.check_frames-requires
check_frames-requires c = head-allowed _ _ _ c.in_ok-head.ensures

pub returns : goal.returns
unfolding reading
returns c =
    c.check_frames.ensures ∙ sym (body-unmeasured c.in_ok-head.head.header _) ∙ ap (λ (p : Part Header). number_of (p then body_of (λ shape. 0))) c.in_ok-head.ensures
