-- The invariant: no row passed holds a sample above 4095. A hit refuses, the end accepts.
use Rattle.std.specs.Prelude.{◌+◌, ◌-◌, ◌*◌, ◌≤◌}
use Rattle.algebra.specs.Prelude.{sym, ◌∙◌, arith, rules, length}
use Rattle.refusals.specs.SomeLaws.{Passed, pass-start, pass-turn}
use Rattle.admit_value.specs.BoundLaws.{row_test, rows-most, row_inside, samples-small, samples-refused, samples-accepted}
use Rattle.admit_value.proofs.sample_refusal as of

abbrev invariant-loop-row : of.Tie.invariant-loop-row
invariant-loop-row shape samples row₀ row-end row = Passed (row_test shape samples) (shape.count * shape.height) row

abbrev decreases-loop-row : of.Tie.decreases-loop-row
decreases-loop-row shape samples row₀ row-end row = shape.count * shape.height - row

mul-row-end : of.Tie.Need-overflow_mul-row-end invariant-loop-row decreases-loop-row
mul-row-end c = omega (arith, rows-most c.before.before.requires)

-- the row of a turn lies among the samples
inside : (c : of.Tie.After-struct_known-in-loop-row-1 invariant-loop-row decreases-loop-row) → let a = c.before.before.before.before.before.args in c.before.before.loop-row.row * a.shape.pitch + a.shape.width ≤ length a.samples.now
inside c = row_inside c.before.before.before.before.before.requires c.before.before.loop-row.row c.before.loop-row-test.true

mul-row-above : of.Tie.Need-overflow_mul-row invariant-loop-row decreases-loop-row
mul-row-above c = omega (arith, inside c, samples-small c.before.before.before.before.before.requires)

row-above-requires : of.Tie.Need-row_above-requires invariant-loop-row decreases-loop-row
row-above-requires c κs = (inside c, c.before.before.before.before.before.requires.allowed.wide.whole)

returns : of.Tie.Need-returns-then-row_above invariant-loop-row decreases-loop-row
returns c =
    let turn = c.before.before.before in
    samples-refused _ _ turn.before.loop-row.row turn.loop-row-test.true (sym c.before.row_above.ensures ∙ c.if-row_above.true)

loop-again : of.Tie.Need-loop-row-preserved invariant-loop-row decreases-loop-row
loop-again c =
    let turn = c.before.before.before in
    pass-turn turn.before.loop-row.invariant turn.loop-row-test.true (sym c.before.row_above.ensures ∙ c.if-row_above.false)

returns-2 : of.Tie.Need-returns invariant-loop-row decreases-loop-row
returns-2 c = samples-accepted _ _ c.before.loop-row.invariant c.loop-row-test.false

pub sample_refusal_spec : {M : Type 1} → of.Statement.statement M
sample_refusal_spec = of.Tie.close (of.Tie.spec
    invariant-loop-row decreases-loop-row mul-row-end (λ c. pass-start) mul-row-above row-above-requires returns (λ c. omega (arith, rows-most c.before.before.before.before.before.before.before.requires))
    (λ c. search rules) loop-again returns-2)
