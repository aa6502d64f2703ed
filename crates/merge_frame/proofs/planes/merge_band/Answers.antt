-- A row a turn, from the two rows of pairs of tiles that are held.
use Rattle.merge_frame.specs.Prelude.{arith}
use Rattle.merge_frame.proofs.Bands.{band-start, band-inside, band-over, band-room, band-turn}
use Rattle.merge_frame.proofs.planes.merge_band.Goals as goal

pub loop-i-init : goal.loop-i-init
loop-i-init c = band-start c.correction_row.ensures c.requires.room c.requires.held

pub output_row-requires : goal.output_row-requires
output_row-requires c =
    let r = c.requires in
    let w = c.loop-i.invariant in
    record {
      inside = band-inside r.accepted r.parity r.from_first r.band_below w (omega arith);
      over = band-over r.accepted r.parity r.from_first r.band_below w (omega arith);
      samples_long = r.accepted.burst.samples_long;
      output_room = band-room r.accepted r.parity r.from_first r.band_below w (omega arith) r.output_room;
    }

pub loop-i-preserved : goal.loop-i-preserved
loop-i-preserved c =
    let r = c.requires in
    band-turn r.accepted r.parity r.from_first r.band_below c.loop-i.invariant (omega arith) r.output_room c.output_row.ensures
