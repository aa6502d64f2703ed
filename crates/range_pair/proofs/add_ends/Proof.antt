-- Equal ends are the recipe's P.
use Rattle.algebra.specs.Prelude.{rules}
use Rattle.range_pair.proofs.Planes.{ends-equal}
use Rattle.range_pair.proofs.add_ends as of

add-same-requires : of.Tie.Need-add_same-requires
add-same-requires c κs =
    let p = c.requires in
    record { differences = p.differences; lower_fits = p.lower_fits; upper_fits = p.lower_fits; greatests = p.greatests; leasts = p.leasts }

returns : of.Tie.Need-returns-then-same
returns c = let t = c in ends-equal (t.same.ensures t.if-same.true) c.add_same.ensures

pub add_ends_spec : {M : Type 1} → of.Statement.statement M
add_ends_spec = of.Tie.close (of.Tie.spec
    (λ c κs. search rules) add-same-requires returns (λ c κs. c.requires) (λ c. c.add_apart.ensures))
