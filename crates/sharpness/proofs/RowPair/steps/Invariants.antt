-- The loop goes on where the blocks end.
use Rattle.std.specs.Prelude.{◌-◌, ◌/◌}
use Rattle.sharpness.specs.Prelude.{sample_at}
use Rattle.sequences.specs.Sum.{Summed}
use Rattle.sharpness.specs.Words.{place_steps}
use Rattle.sharpness.proofs.RowPair.steps.Given as goal

abbrev pub invariant-loop-place : goal.invariant-loop-place
invariant-loop-place l = Summed (place_steps (sample_at l.self.shape l.self.samples.now l.self.frame) l.self.row l.self.down) 32768 (l.self.shape.width / 2 - 1) l.place l.sum
