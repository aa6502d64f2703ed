use Rattle.algebra.specs.Prelude.{◌∙◌, arith}
use Rattle.sequences.specs.Sum.{sum-start, sum-turn}
use Rattle.align_residual.specs.SixteenLaws.{beside-row, eight-done}
use Rattle.align_residual.proofs.sixteen.absolute_row.Goals as goal

pub loop-j-init : goal.loop-j-init
loop-j-init c = sum-start

pub loop-j-preserved : goal.loop-j-preserved
loop-j-preserved c = sum-turn c.loop-j.invariant (omega arith) (c.wide-sum.ensures.0 ∙ c.beside.ensures.0) c.wide-sum.ensures.1

pub returns : goal.returns
returns c = eight-done c.loop-j.invariant (omega arith) (beside-row c.args.tile.now c.args.window.now c.args.a c.args.b)
