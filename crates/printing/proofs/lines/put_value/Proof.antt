-- The digits, then the byte that the test of `left` picks.
use Rattle.printing.specs.Prelude.{arith, rules}
use borrow.Author.Tests.{eq-eqb, ne_eqb}
use Rattle.printing.specs.Lines.{value}
use Rattle.printing.specs.PutLaws.{printed-then}
use Rattle.printing.proofs.lines.put_value as of

returns : of.Tie.Need-returns-then-left-eq0
unfolding value
returns c =
    let branch = c.before.before.before.before in
    let call = branch.before.before.before in
    (rw (eq-eqb _ _ branch.if-left-eq0.true) (printed-then (omega arith) call.put_number-next.ensures.0 c.before.before.put_byte.ensures), omega arith)

returns-2 : of.Tie.Need-returns
unfolding value
returns-2 c =
    let branch = c.before.before.before.before in
    let call = branch.before.before.before in
    (rw (ne_eqb _ _ branch.if-left-eq0.false) (printed-then (omega arith) call.put_number-next.ensures.0 c.before.before.put_byte-2.ensures), omega arith)

pub put_value_spec : {M : Type 1} → of.Statement.statement M
put_value_spec = of.Tie.close (of.Tie.spec
    (λ c κs. search rules) (λ c κs. search rules) (λ c. search rules) returns (λ c κs. search rules)
    (λ c. search rules) returns-2)
