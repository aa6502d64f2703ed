-- The definition's own test.
use Rattle.tile_spatial.specs.Prelude.{refl, arith, rules, frequency}
use borrow.Author.Tests.{lt-ltb, le-ltb}
use Rattle.tile_spatial.proofs.gains.counted as of

returns : of.Tie.Need-returns-then-u-gt8
unfolding frequency
returns c =
    let u = c.args.u in
    rw (lt-ltb 8 u (omega arith)) (refl, omega arith)

returns-2 : of.Tie.Need-returns
unfolding frequency
returns-2 c =
    let u = c.args.u in
    rw (le-ltb 8 u (omega arith)) (refl, omega arith)

pub counted_spec : {M : Type 1} → of.Statement.statement M
counted_spec = of.Tie.close (of.Tie.spec (λ c. search rules) returns returns-2)
