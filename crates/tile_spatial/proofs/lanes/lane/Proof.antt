-- Of the first plane or of the second.
use Rattle.std.specs.Prelude.{◌%◌}
use Rattle.algebra.specs.Prelude.{rules}
use borrow.Author.Tests.{eq-eqb, ne_eqb}
use Rattle.tile_spatial.proofs.lanes.lane as of

returns : of.Tie.Need-returns-then-l-eq0
returns c =
    rw (eq-eqb (c.args.l % 2) 0 c.if-l-eq0.true)

returns-2 : of.Tie.Need-returns
returns-2 c =
    rw (ne_eqb (c.args.l % 2) 0 c.if-l-eq0.false)

pub lane_spec : {M : Type 1} → of.Statement.statement M
lane_spec = of.Tie.close (of.Tie.spec
    (λ c. search rules) (λ c. search rules) returns (λ c. search rules) (λ c. search rules)
    returns-2)
