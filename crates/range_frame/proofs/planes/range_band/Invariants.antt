-- A row of both frames a turn, from the two rows of pairs of tiles that are held.
use Rattle.range_frame.specs.BandLaws.{InBand}
use Rattle.range_frame.proofs.planes.range_band.Given as goal

abbrev pub invariant-loop-i : goal.invariant-loop-i
invariant-loop-i l = let b = l.fn.burst in InBand b.merge b.samples.now b.vectors.now l.fn.parity l.fn.band l.work l.initial.low l.initial.high l.i l.low l.high
