-- The test of the tag at the row.
use Rattle.algebra.specs.Prelude.{◌∙◌, rules}
use Rattle.file_dng.specs.Tags.Refusals.{value_outside}
use Rattle.file_dng.proofs.tags.tests.value_outside as of

returns : of.Tie.Need-returns
unfolding value_outside
returns c = c.field_outside.ensures ∙ rw c.tag.ensures.0

pub value_outside_spec : {M : Type 1} → of.Statement.statement M
value_outside_spec = of.Tie.close (of.Tie.spec (λ c κs. search rules) (λ c κs. search rules) returns)
