-- One place outside at most, the nearest edge is read.
use Rattle.algebra.specs.Prelude.{arith, rules}
use Rattle.align_pyramid.specs.Halving.HalvingLaws.{inside-tap}
use Rattle.align_pyramid.proofs.halving.tap_index as of

returns : of.Tie.Need-returns-then-q-eq0
returns c = let a = c.before.args in (omega (arith, inside-tap a.size a.p a.k (omega arith) (omega arith)), omega arith)

returns-2 : of.Tie.Need-returns-then-q-size
returns-2 c = let a = c.before.before.args in (omega (arith, inside-tap a.size a.p a.k (omega arith) (omega arith)), omega arith)

returns-3 : of.Tie.Need-returns
returns-3 c = let a = c.before.before.args in (omega (arith, inside-tap a.size a.p a.k (omega arith) (omega arith)), omega arith)

pub tap_index_spec : {M : Type 1} → of.Statement.statement M
tap_index_spec = of.Tie.close (of.Tie.spec
    (λ c. search rules) (λ c. search rules) returns (λ c. search rules) returns-2 (λ c. search rules) returns-3)
