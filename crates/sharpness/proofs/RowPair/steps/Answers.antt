use Rattle.std.specs.Prelude.{◌/◌}
use Rattle.sharpness.specs.Prelude.{arith, sample_at}
use Rattle.sequences.specs.Sum.{sum-turn, sum_done}
use Rattle.sharpness.proofs.Rows.{row-sum}
use Rattle.sharpness.proofs.RowPair.steps.Goals as goal

pub loop-place-init : goal.loop-place-init
loop-place-init c = let e = c.block_steps-sum.ensures in record { count = omega arith; is = e.0; most = omega (arith, e.1) }

pub loop-place-preserved : goal.loop-place-preserved
loop-place-preserved c = sum-turn c.loop-place.invariant (omega arith) c.word_steps.ensures.0 (omega (arith, c.word_steps.ensures.1))

pub returns : goal.returns
returns c =
    let s = c.args.self in
    let wide = s.inside.sampled.allowed.wide in
    let l = c.loop-place.invariant in (
      row-sum (sample_at s.shape s.samples.now s.frame) (s.shape.width / 2) s.row s.down (omega (arith, wide.least)) (sum_done l (omega arith)) c.last_step.ensures,
      omega (arith, wide.most, l.count, l.most),
    )
