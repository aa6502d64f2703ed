-- A pair a turn, both ends of each at their places of the row.
use Rattle.range_tiles.specs.EndSums.{at_noises}
use Rattle.range_tiles.specs.EndRowLaws.{EndStoring}
use Rattle.range_tiles.proofs.rows.end_row.Given as goal

abbrev pub invariant-loop-column : goal.invariant-loop-column
invariant-loop-column l = at_noises EndStoring l.fn.burst.merge l.fn.upper l.fn.burst.samples.now l.fn.burst.vectors.now l.fn.parity l.fn.row l.initial.work l.column l.work
