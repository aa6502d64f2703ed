-- The size of the first right field.
use borrow.Author.Rules.{rules}
use Rattle.file_dng.specs.Tags.Refusals.{absent}
use Rattle.file_dng.proofs.tags.tests.absent as of

returns : of.Tie.Need-returns
unfolding absent
returns c = rw (c.field-found.ensures.is, c.tag.ensures.0)

pub absent_spec : {M : Type 1} → of.Statement.statement M
absent_spec = of.Tie.close (of.Tie.spec (λ c κs. search rules) (λ c κs. search rules) returns)
