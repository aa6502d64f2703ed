-- An index below the count is the lesser; any other is at least the last.
use Rattle.algebra.specs.Prelude.{arith, rules}
use Rattle.geometry.specs.Tiles.{capped}
use Rattle.geometry.proofs.tiles.capped as of

returns : of.Tie.Need-returns-then-index-count
unfolding capped
returns c = omega arith

returns-2 : of.Tie.Need-returns-else-index-count
unfolding capped
returns-2 c = omega arith

pub capped_spec : {M : Type 1} → of.Statement.statement M
capped_spec = of.Tie.close (of.Tie.spec (λ c. search rules) returns returns-2)
