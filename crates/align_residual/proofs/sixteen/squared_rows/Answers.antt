use Rattle.algebra.specs.Prelude.{arith}
use Rattle.sequences.specs.Sum.{sum-start, sum-turn, sum_done}
use Rattle.align_residual.specs.Residual.{difference}
use Rattle.align_residual.specs.Local.{row_sum}
use Rattle.align_residual.proofs.sixteen.squared_rows.Goals as goal

pub loop-j-init : goal.loop-j-init
loop-j-init g c = (sum-start, sum-start)

pub loop-j-preserved : goal.loop-j-preserved
unfolding difference
loop-j-preserved g c = (sum-turn c.loop-j.invariant.0 (omega arith) c.square-upper.ensures.0 c.square-upper.ensures.1, sum-turn c.loop-j.invariant.1 (omega arith) c.square-lower.ensures.0 c.square-lower.ensures.1)

pub returns : goal.returns
unfolding row_sum
returns g c =
    let i = c.loop-j.invariant in
    record { upper_is = sum_done i.0 (omega arith); lower_is = sum_done i.1 (omega arith); upper_most = omega arith; lower_most = omega arith }
