-- One sum over eight numbers of 16 bits.
use Rattle.std.specs.Prelude.{◌+◌, ◌*◌}
use Rattle.algebra.specs.Prelude.{get_or}
use Rattle.sequences.specs.Sum.{Summed}
use Rattle.sharpness.proofs.green_total.Given as goal

abbrev pub invariant-loop-j : goal.invariant-loop-j
invariant-loop-j l = Summed (λ k. get_or l.lanes (2 * k + 1) 0) 65535 8 l.j l.sum
