-- The test as it stands.
use borrow.Author.Rules.{rules}
use Rattle.file_dng.specs.Tags.Refusals.{demand_missed}
use Rattle.file_dng.proofs.tags.tests.demand_missed as of

returns : of.Tie.Need-returns
unfolding demand_missed
returns c = rw (c.value.ensures.0, c.tag.ensures.0, c.demand-asked.ensures.0)

pub demand_missed_spec : {M : Type 1} → of.Statement.statement M
demand_missed_spec = of.Tie.close (of.Tie.spec
    (λ c κs. search rules) (λ c κs. search rules) (λ c κs. search rules) returns)
