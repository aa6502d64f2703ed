-- A band a turn, each under the row of pairs of tiles that the one before has left.
use Rattle.std.specs.Prelude.{◌≡◌, ◌≤◌}
use Rattle.merge_frame.specs.Prelude.{length}
use Rattle.merge_frame.proofs.Bands.{InParity}
use Rattle.merge_frame.proofs.planes.merge_parity.Given as goal

abbrev pub invariant-loop-band : goal.invariant-loop-band
invariant-loop-band l = let b = l.fn.burst in record {
  rows : InParity b.merge b.samples.now b.vectors.now l.fn.parity l.fn.first l.initial.output l.band l.output l.work;
  long : length l.work ≡ length l.fn.work;
  most : l.band ≤ l.fn.last;
}
