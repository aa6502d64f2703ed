-- The size that the digits write, then the form.
use Rattle.std.proofs.Common.{rules, ap, ◌∙◌, ◌≡◌, Err}
use Rattle.file_pgm.specs.declared.reading.Size.{Size}
use Rattle.file_pgm.specs.Reading.{accepted_pgm}
use Rattle.file_pgm.specs.Size.{pgm_size}
use Rattle.file_pgm.proofs.Answered.{answer-refused, answer-accepted, form-tested}
use Rattle.file_pgm.proofs.reading.formed_size.Goals as goal

pub returns-in_err-refuse : goal.returns-in_err-refuse
unfolding pgm_size
returns-in_err-refuse c =
    let r : c.from_residual.result ≡ Err c.in_err-refuse.field-0.0 = search rules in
    rw r (answer-refused c.in_err-refuse.field-0.0 _ _ _ (c.in_err-refuse.ensures ∙ form-tested _ _ c.size_in-size.ensures c.formed.ensures))

pub returns : goal.returns
unfolding pgm_size
returns c =
    ap (λ (s : Size). accepted_pgm s.width s.height) c.size_in-size.ensures
    ∙ answer-accepted _ _ _ (c.in_ok-refuse.ensures ∙ form-tested _ _ c.size_in-size.ensures c.formed.ensures)
