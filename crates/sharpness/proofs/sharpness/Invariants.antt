-- One sum over the rows but the last, which comes after it.
use Rattle.std.specs.Prelude.{◌-◌, ◌/◌}
use Rattle.sequences.specs.Sum.{Summed}
use Rattle.sharpness.specs.Sharpness.{green}
use Rattle.sharpness.specs.Words.{both_steps, row_most}
use Rattle.sharpness.proofs.sharpness.Given as goal

abbrev pub invariant-loop-row : goal.invariant-loop-row
invariant-loop-row l = Summed (both_steps (l.shape.width / 2) 1 (green l.shape l.samples l.frame)) row_most (l.shape.height / 2 - 1) l.row l.sum
