-- A row a turn, from the two rows of pairs of tiles that are held.
use Rattle.merge_frame.proofs.Bands.{InBand}
use Rattle.merge_frame.proofs.planes.merge_band.Given as goal

abbrev pub invariant-loop-i : goal.invariant-loop-i
invariant-loop-i l = let b = l.fn.burst in InBand b.merge b.samples.now b.vectors.now l.fn.parity l.fn.first l.fn.band l.work l.initial.output l.i l.output
