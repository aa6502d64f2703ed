-- The sum goes on by one frame a turn.
use Rattle.std.specs.Prelude.{◌≡◌}
use Rattle.merge_tiles.specs.Prelude.{length, side_of, scene_at}
use Rattle.merge_tiles.specs.SumLaws.{Summing}
use Rattle.merge_tiles.proofs.correcting.corrections.Given as goal

abbrev pub invariant-loop-k : goal.invariant-loop-k
invariant-loop-k g l = record { ready : g.C.Corrector.ready l.corrector; sums : Summing g.row.SIDE g.C.Corrector.small (scene_at (side_of g.row.SIDE) l.fn.burst.merge l.fn.burst.samples.now l.fn.burst.vectors.now) l.fn.site l.k l.sum; tz_rows : length l.tz ≡ g.row.SIDE; d_rows : length l.d ≡ g.row.SIDE }
