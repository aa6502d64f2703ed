-- The first LF ends the loop.
use Rattle.std.proofs.Common.{sym, ◌∙◌, arith}
use Rattle.file_burst.proofs.lines.Bytes.{lf-here, lf-on, lf-end}
use Rattle.file_burst.proofs.lines.scanning.has_lf.Goals as goal

pub returns-then-file-i-eq10 : goal.returns-then-file-i-eq10
returns-then-file-i-eq10 c = sym (lf-here c.args.file.now c.loop-i.i (omega arith) c.if-file-i-eq10.true) ∙ c.loop-i.invariant

pub loop-i-preserved : goal.loop-i-preserved
loop-i-preserved c = lf-on c.args.file.now c.loop-i.i (omega arith) c.if-file-i-eq10.false ∙ c.loop-i.invariant

pub returns : goal.returns
returns c = sym (lf-end c.args.file.now c.loop-i.i (omega arith)) ∙ c.loop-i.invariant
