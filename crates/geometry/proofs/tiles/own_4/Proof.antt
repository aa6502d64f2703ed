-- Each arm of the match at its remainder.
use Rattle.std.specs.Prelude.{◌≡◌, ◌%◌}
use Rattle.algebra.specs.Prelude.{arith, rules}
use Rattle.geometry.specs.Tiles.{own4}
use Rattle.geometry.specs.NeighbourLaws.{own-by-4}
use Rattle.geometry.proofs.tiles.own_4 as of

returns : of.Tie.Need-returns-in-0
unfolding own4
returns c = rw (own-by-4 c.before.args.a, c.in-0.is)

returns-2 : of.Tie.Need-returns-in-1
unfolding own4
returns-2 c = rw (own-by-4 c.before.args.a, c.in-1.is)

returns-3 : of.Tie.Need-returns-in-2
unfolding own4
returns-3 c = rw (own-by-4 c.before.args.a, c.in-2.is)

returns-4 : of.Tie.Need-returns-in_default
unfolding own4
returns-4 c =
    let last : c.before.args.a % 4 ≡ 3 = omega arith in
    rw (own-by-4 c.before.args.a, last)

pub own_4_spec : {M : Type 1} → of.Statement.statement M
own_4_spec = of.Tie.close (of.Tie.spec (λ c. search rules) (λ c. search rules) returns returns-2 returns-3 returns-4)
