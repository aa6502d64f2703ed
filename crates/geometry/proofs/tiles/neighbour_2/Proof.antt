-- Each arm of the match at its remainder.
use Rattle.std.specs.Prelude.{◌≡◌, ◌%◌}
use Rattle.algebra.specs.Prelude.{arith, rules}
use Rattle.geometry.specs.Tiles.{neighbour2}
use Rattle.geometry.specs.NeighbourLaws.{neighbour-by-2}
use Rattle.geometry.proofs.tiles.neighbour_2 as of

returns : of.Tie.Need-returns-in-0
unfolding neighbour2
returns c = rw (neighbour-by-2 c.before.args.a, c.in-0.is)

returns-2 : of.Tie.Need-returns-in_default
unfolding neighbour2
returns-2 c =
    let last : c.before.args.a % 2 ≡ 1 = omega arith in
    rw (neighbour-by-2 c.before.args.a, last)

pub neighbour_2_spec : {M : Type 1} → of.Statement.statement M
neighbour_2_spec = of.Tie.close (of.Tie.spec (λ c. search rules) returns returns-2)
