-- The value at index 0.
use Rattle.algebra.specs.Prelude.{◌∙◌, arith, rules}
use Rattle.file_dng.specs.Tags.Refusals.{value_of}
use Rattle.file_dng.proofs.tags.tests.value_of as of

returns : of.Tie.Need-returns
unfolding value_of
returns c = (c.value.ensures.0 ∙ rw c.tag.ensures.0, omega arith)

pub value_of_spec : {M : Type 1} → of.Statement.statement M
value_of_spec = of.Tie.close (of.Tie.spec (λ c κs. search rules) (λ c κs. search rules) returns)
