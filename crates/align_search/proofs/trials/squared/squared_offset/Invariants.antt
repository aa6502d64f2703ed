-- Two rows at a time, none before having reached the least.
use Rattle.std.specs.Prelude.{◌+◌, ◌*◌, ◌/◌}
use Rattle.align_search.specs.Trials.Prelude.{true, squared_row_most, square_row}
use Rattle.align_search.specs.Trials.LeaveLaws.{Running}
use Rattle.align_search.proofs.trials.squared.squared_offset.Given as goal

abbrev pub invariant-loop-i : goal.invariant-loop-i
invariant-loop-i g l = Running l.low (square_row true l.tile l.window (l.y * (g.row.SIDE + 8) + l.x) (g.row.SIDE + 8) g.row.SIDE) (2 * squared_row_most) (g.row.SIDE / 2) l.i l.sum
