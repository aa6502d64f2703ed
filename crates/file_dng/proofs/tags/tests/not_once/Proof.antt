-- The test of the tag at the row.
use borrow.Author.Rules.{rules}
use Rattle.file_dng.specs.Tags.Refusals.{not_once}
use Rattle.file_dng.proofs.tags.tests.not_once as of

returns : of.Tie.Need-returns
unfolding not_once
returns c = rw (c.times.ensures, c.tag-wanted.ensures.0)

pub not_once_spec : {M : Type 1} → of.Statement.statement M
not_once_spec = of.Tie.close (of.Tie.spec (λ c κs. search rules) (λ c κs. search rules) returns)
