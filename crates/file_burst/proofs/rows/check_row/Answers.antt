-- The judgement of the row's line decides.
use Rattle.std.proofs.Common.{rules, refl, ap, ◌∙◌, ◌≡◌, Err}
use Rattle.file_burst.specs.Lines.PartLaws.{unless-refused, unless-goes}
use Rattle.file_burst.proofs.Passages.{decided, row-decided}
use Rattle.file_burst.proofs.rows.check_row.Goals as goal

pub returns-in_err-line : goal.returns-in_err-line
returns-in_err-line c =
    let r : c.from_residual.result ≡ Err c.in_err-line.field-0.0 = search rules in
    rw r (ap decided c.in_err-line.ensures ∙ row-decided _ _)

pub returns-in_err-refuse : goal.returns-in_err-refuse
returns-in_err-refuse c =
    let r : c.from_residual-in_err-refuse.result ≡ Err c.in_err-refuse.field-0.0 = search rules in
    rw r (unless-refused c.in_err-refuse.field-0.0 _ c.in_err-refuse.ensures ∙ ap decided c.in_ok-line.ensures ∙ row-decided _ _)

pub returns : goal.returns
returns c = unless-goes _ c.in_ok-refuse.ensures refl ∙ ap decided c.in_ok-line.ensures ∙ row-decided _ _
