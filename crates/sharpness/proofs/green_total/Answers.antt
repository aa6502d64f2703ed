use Rattle.algebra.specs.Prelude.{arith}
use Rattle.sequences.specs.Sum.{sum-start, sum-turn, sum_done}
use Rattle.sharpness.specs.Words.{green_total}
use Rattle.sharpness.proofs.green_total.Goals as goal

pub loop-j-init : goal.loop-j-init
loop-j-init c = sum-start

pub loop-j-preserved : goal.loop-j-preserved
loop-j-preserved c = sum-turn c.loop-j.invariant (omega arith) c.wide-sum.ensures.0 c.wide-sum.ensures.1

pub returns : goal.returns
unfolding green_total
returns c = (sum_done c.loop-j.invariant (omega arith), omega arith)
