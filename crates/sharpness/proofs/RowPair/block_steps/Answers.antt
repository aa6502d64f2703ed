use Rattle.std.specs.Prelude.{◌-◌, ◌/◌}
use Rattle.sharpness.specs.Prelude.{sym, ◌∙◌, arith, sample_at}
use Rattle.algebra.specs.SumLaws.{sum_n-rows}
use Rattle.sequences.specs.Sum.{sum-start, sum-turn, sum_done, sum-most}
use Rattle.sharpness.specs.Words.{word_steps, place_steps}
use Rattle.sharpness.proofs.Rows.{block-sum}
use Rattle.sharpness.proofs.RowPair.block_steps.Goals as goal

pub loop-block-init : goal.loop-block-init
loop-block-init c = sum-start

pub loop-block-preserved : goal.loop-block-preserved
loop-block-preserved c =
    let s = c.args.self in
    sum-turn c.loop-block.invariant (omega arith) (c.green_total-sum.ensures.0 ∙ block-sum (word_steps (sample_at s.shape s.samples.now s.frame) s.row s.down) c.loop-block.block c.lanes.ensures) c.green_total-sum.ensures.1

pub returns : goal.returns
returns c =
    let s = c.args.self in
    let l = c.loop-block.invariant in (
      sum_done l (omega arith) ∙ sym (sum_n-rows (s.shape.width / 32 - 1) 16 (place_steps (sample_at s.shape s.samples.now s.frame) s.row s.down)),
      sum-most l (omega arith),
    )
