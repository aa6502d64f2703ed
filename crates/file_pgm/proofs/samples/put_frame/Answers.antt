use Rattle.std.proofs.Common.{arith}
use Rattle.file_pgm.proofs.samples.Framing.{frame-start, frame-turn, frame-done}
use Rattle.file_pgm.proofs.samples.put_frame.Goals as goal

pub loop-i-init : goal.loop-i-init
loop-i-init c = frame-start c.requires

pub loop-i-preserved : goal.loop-i-preserved
loop-i-preserved c = frame-turn c.loop-i.invariant (omega arith)

pub returns : goal.returns
returns c = frame-done c.loop-i.invariant (omega arith)
