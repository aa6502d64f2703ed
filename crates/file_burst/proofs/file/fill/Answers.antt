-- The value at the position is the next one.
use Rattle.std.proofs.Common.{◌<◌, refl, arith, ◌∙◌}
use Rattle.file_burst.specs.Prelude.{length, drop, next_values}
use Rattle.sequences.specs.TabLaws.{fill_start, fill-turn, fill_done}
use Rattle.file_burst.specs.RowLaws.{above_at}
use Rattle.file_burst.proofs.Fills.{take-start, take-value, take-turn, next-table}
use Rattle.file_burst.proofs.file.fill.Goals as goal

pub loop-sample-init : goal.loop-sample-init
loop-sample-init c = (fill_start refl, take-start)

pub overflow_cast-sample : goal.overflow_cast-sample
overflow_cast-sample c =
    let values = next_values (length c.args.samples.now) (drop c.args.at c.args.file.now) in
    let inside : c.loop-sample.sample-index < length c.args.samples.now = omega (arith, c.loop-sample.invariant.0.same) in
    omega (arith, c.value_at-found.ensures.0 ∙ take-value c.loop-sample.invariant.1 inside, above_at 4095 values c.requires c.loop-sample.sample-index)

pub loop-sample-preserved : goal.loop-sample-preserved
loop-sample-preserved c =
    let inside : c.loop-sample.sample-index < length c.args.samples.now = omega (arith, c.loop-sample.invariant.0.same) in (
      fill-turn c.loop-sample.invariant.0 inside (c.value_at-found.ensures.0 ∙ take-value c.loop-sample.invariant.1 inside),
      take-turn c.loop-sample.invariant.1 inside c.value_at-found.ensures.1,
    )

pub returns : goal.returns
returns c = fill_done c.loop-sample.invariant.0 (omega (arith, c.loop-sample.invariant.0.same)) ∙ next-table (length c.args.samples.now) (drop c.args.at c.args.file.now)
