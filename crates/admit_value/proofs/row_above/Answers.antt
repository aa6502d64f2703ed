-- A hit ends the loop.
use Rattle.std.proofs.Common.{sym, arith}
use Rattle.refusals.specs.SomeLaws.{pass-start}
use Rattle.admit_value.specs.BoundLaws.{block-above, block-passed, row-passed}
use Rattle.admit_value.proofs.row_above.Goals as goal

pub loop-column-init : goal.loop-column-init
loop-column-init c = (pass-start, omega (arith, c.requires.1))

pub excess-requires : goal.excess-requires
excess-requires c = omega (arith, c.requires.0, c.loop-column.invariant.1, c.loop-column-test.true)

pub returns-then-excess-gt0 : goal.returns-then-excess-gt0
returns-then-excess-gt0 c = sym (block-above c.args.samples.now c.args.start c.args.width c.loop-column.column (omega (arith, c.loop-column.invariant.1, c.loop-column-test.true)) (omega arith))

pub loop-column-preserved : goal.loop-column-preserved
loop-column-preserved c =
    let inside = c.loop-column.invariant.1 in
    (block-passed _ _ _ c.loop-column.column (omega (arith, inside, c.loop-column-test.true)) (omega arith) c.loop-column.invariant.0, omega (arith, inside))

pub returns : goal.returns
returns c = sym (row-passed _ _ _ c.loop-column.invariant.0 c.loop-column-test.false)

-- the last block
pub returns-else-excess-gt0 : goal.returns-else-excess-gt0
returns-else-excess-gt0 c =
    let inside = c.loop-column.invariant.1 in
    sym (row-passed _ _ _ (block-passed _ _ _ c.loop-column.column (omega (arith, inside, c.loop-column-test.true)) (omega arith) c.loop-column.invariant.0) (omega arith))
