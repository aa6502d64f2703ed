-- A pair a turn, each at its places of the row.
use Rattle.merge_tiles.specs.Prelude.{side_of, scene_at}
use Rattle.merge_tiles.specs.StoreLaws.{Storing}
use Rattle.merge_tiles.proofs.rows.row_by.Given as goal

abbrev pub invariant-loop-column : goal.invariant-loop-column
invariant-loop-column g l = record { ready : g.C.Corrector.ready l.corrector; stored : Storing g.row.SIDE (scene_at (side_of g.row.SIDE) l.fn.burst.merge l.fn.burst.samples.now l.fn.burst.vectors.now) l.fn.parity l.fn.row l.initial.work l.column l.work }
