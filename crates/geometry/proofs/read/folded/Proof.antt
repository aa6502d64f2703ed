-- Forward the place itself, backward what is left of the period.
use Rattle.algebra.specs.Prelude.{arith, rules}
use Rattle.geometry.specs.Read.{mirrored}
use Rattle.geometry.proofs.read.folded as of

returns : of.Tie.Need-returns-then-place-size
unfolding mirrored
returns c = (omega arith, omega arith)

returns-2 : of.Tie.Need-returns
unfolding mirrored
returns-2 c = (omega arith, omega arith)

pub folded_spec : {M : Type 1} → of.Statement.statement M
folded_spec = of.Tie.close (of.Tie.spec returns (λ c. search rules) (λ c. search rules) (λ c. search rules) returns-2)
