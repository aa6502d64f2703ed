-- One sum over the blocks, each of sixteen places.
use Rattle.std.specs.Prelude.{◌+◌, ◌-◌, ◌*◌, ◌/◌}
use Rattle.sharpness.specs.Prelude.{sum_n, sample_at}
use Rattle.sequences.specs.Sum.{Summed}
use Rattle.sharpness.specs.Words.{place_steps}
use Rattle.sharpness.proofs.RowPair.block_steps.Given as goal

abbrev pub invariant-loop-block : goal.invariant-loop-block
invariant-loop-block l =
    Summed (λ k. sum_n 16 (λ j. place_steps (sample_at l.self.shape l.self.samples.now l.self.frame) l.self.row l.self.down (k * 16 + j))) 524280 (l.self.shape.width / 32 - 1) l.block l.sum
