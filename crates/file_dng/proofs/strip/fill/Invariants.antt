use Rattle.file_dng.specs.Strip.RowLaws.{Filling}
use Rattle.file_dng.proofs.strip.fill.Given as goal

-- the rows passed stand in the frame
abbrev pub invariant-loop-row : goal.invariant-loop-row
invariant-loop-row l = Filling l.fn.file l.fn.start l.fn.shape l.fn.frame l.fn.samples l.row l.samples
