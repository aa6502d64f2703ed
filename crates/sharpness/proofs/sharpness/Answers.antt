use Rattle.algebra.specs.Prelude.{arith}
use Rattle.sequences.specs.Sum.{sum-start, sum-turn, sum_done}
use Rattle.sharpness.specs.Sharpness.{sharpness}
use Rattle.sharpness.proofs.Rows.{rows-sum}
use Rattle.sharpness.proofs.sharpness.Goals as goal

pub loop-row-init : goal.loop-row-init
loop-row-init c = sum-start

pub loop-row-preserved : goal.loop-row-preserved
loop-row-preserved c = sum-turn c.loop-row.invariant (omega arith) c.steps.ensures.0 c.steps.ensures.1

pub returns : goal.returns
unfolding sharpness
returns c = rows-sum _ _ _ (omega arith) (sum_done c.loop-row.invariant (omega arith)) c.steps-2.ensures.0
