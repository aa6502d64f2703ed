-- One row at a time, none before having reached the least.
use Rattle.std.specs.Prelude.{◌+◌, ◌*◌}
use Rattle.align_search.specs.Trials.Prelude.{false, pair_most, square_row}
use Rattle.align_search.specs.Trials.LeaveLaws.{Summing}
use Rattle.align_search.proofs.trials.thirty_two.AbsoluteTrial.try_offset.Given as goal

abbrev pub invariant-loop-i : goal.invariant-loop-i
invariant-loop-i l = Summing l.low (square_row false l.tile l.window (l.y * 40 + l.x) 40 32) pair_most 32 l.i l.sum
