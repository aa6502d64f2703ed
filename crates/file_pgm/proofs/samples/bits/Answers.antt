use Rattle.std.proofs.Common.{refl, arith}
use Rattle.refusals.specs.SeenLaws.{seen_start, seen-turn, seen_done}
use Rattle.file_pgm.specs.Samples.Samples.{some_above}
use Rattle.file_pgm.proofs.samples.bits.Goals as goal

pub loop-sample-init : goal.loop-sample-init
loop-sample-init c = seen_start

pub loop-sample-preserved : goal.loop-sample-preserved
loop-sample-preserved c = seen-turn 12 refl c.loop-sample.invariant (omega arith)

pub returns : goal.returns
unfolding some_above
returns c = seen_done c.loop-sample.invariant (omega arith)
