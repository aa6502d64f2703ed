-- The case of the q at hand.
use Rattle.algebra.specs.Prelude.{rules}
use Rattle.geometry.specs.Tiles.{own}
use Rattle.geometry.proofs.tiles.own as of

returns : of.Tie.Need-returns-in-One
unfolding own
returns c = rw c.in-One.is

returns-2 : of.Tie.Need-returns-in-Two
unfolding own
returns-2 c = rw c.before.in-Two.is c.own_2.ensures

returns-3 : of.Tie.Need-returns-in-Four
unfolding own
returns-3 c = rw c.before.in-Four.is c.own_4.ensures

pub own_spec : {M : Type 1} → of.Statement.statement M
own_spec = of.Tie.close (of.Tie.spec
    (λ c. search rules) (λ c. search rules) (λ c κs. search rules) (λ c. search rules) (λ c κs. search rules) returns returns-2 returns-3)
