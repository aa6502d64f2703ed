-- A band a turn, each under the row of pairs of tiles that the one before has left.
use Rattle.std.specs.Prelude.{◌≡◌, ◌*◌, ◌≤◌}
use Rattle.range_frame.specs.Prelude.{length, at_noises}
use Rattle.range_frame.specs.Held.{EndsHeld, RowsRanged}
use Rattle.range_frame.proofs.planes.range_parity.Given as goal

abbrev pub invariant-loop-band : goal.invariant-loop-band
invariant-loop-band l =
    let b = l.fn.burst in
    record {
      rows : at_noises RowsRanged b.merge l.fn.upper b.samples.now b.vectors.now l.fn.parity 0 (8 * l.band) l.initial.low l.low l.initial.high l.high;
      held : at_noises EndsHeld b.merge l.fn.upper b.samples.now b.vectors.now l.fn.parity l.band l.work;
      long : length l.work ≡ length l.fn.work;
      most : l.band ≤ l.bands;
    }
