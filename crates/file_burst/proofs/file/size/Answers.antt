-- The head's refusal, or its values.
use Rattle.std.proofs.Common.{rules, ap, ◌≡◌, Err}
use Rattle.file_burst.specs.Size.{head_answer, file_size}
use Rattle.file_burst.proofs.file.size.Goals as goal

pub returns-in_err-head : goal.returns-in_err-head
unfolding file_size
returns-in_err-head c =
    let r : c.from_residual.result ≡ Err c.in_err-head.field-0.0 = search rules in
    rw r (ap head_answer c.in_err-head.ensures)

pub returns : goal.returns
unfolding file_size
returns c = ap head_answer c.in_ok-head.ensures
