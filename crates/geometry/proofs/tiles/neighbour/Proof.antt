-- The case of the q at hand.
use Rattle.algebra.specs.Prelude.{rules}
use Rattle.geometry.specs.Tiles.{neighbour}
use Rattle.geometry.proofs.tiles.neighbour as of

returns : of.Tie.Need-returns-in-One
unfolding neighbour
returns c = rw c.in-One.is

returns-2 : of.Tie.Need-returns-in-Two
unfolding neighbour
returns-2 c = rw c.before.in-Two.is c.neighbour_2.ensures

returns-3 : of.Tie.Need-returns-in-Four
unfolding neighbour
returns-3 c = rw c.before.in-Four.is c.neighbour_4.ensures

pub neighbour_spec : {M : Type 1} → of.Statement.statement M
neighbour_spec = of.Tie.close (of.Tie.spec
    (λ c. search rules) (λ c. search rules) (λ c. search rules) (λ c κs. search rules) (λ c. search rules) (λ c κs. search rules) returns returns-2 returns-3)
