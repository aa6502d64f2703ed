-- Two rows at a time, none before having reached the least.
use Rattle.std.specs.Prelude.{◌+◌, ◌*◌}
use Rattle.align_search.specs.Trials.Prelude.{false, pair_most, square_row}
use Rattle.align_search.specs.Trials.LeaveLaws.{Running}
use Rattle.align_search.proofs.trials.sixteen.AbsoluteTrial.try_offset.Given as goal

abbrev pub invariant-loop-i : goal.invariant-loop-i
invariant-loop-i l = Running l.low (square_row false l.tile l.window (l.y * 24 + l.x) 24 16) pair_most 8 l.i l.sum
