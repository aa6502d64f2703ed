-- Where all noise numbers are 0, so is every P.
use Rattle.algebra.specs.Prelude.{rules}
use Rattle.range_tiles.specs.EndSumLaws.{greatest-ending, least-ending, none-summed}
use Rattle.range_tiles.proofs.summed as of

returns : of.Tie.Need-returns-then-lower-upper-eq0
returns c =
    let p = c.requires in
    record { greatests = none-summed greatest-ending c.if-lower-upper-eq0.true p.cleared.greatest_is; leasts = none-summed least-ending c.if-lower-upper-eq0.true p.cleared.least_is }

pub summed_spec : {M : Type 1} → of.Statement.statement M
summed_spec = of.Tie.close (of.Tie.spec (λ c. search rules) (λ c. search rules) (λ c. search rules) returns (λ c κs. search rules) (λ c. search rules))
