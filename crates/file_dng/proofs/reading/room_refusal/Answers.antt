-- What the tests of the frames let through.
use Rattle.std.proofs.Common.{sym}
use Rattle.admit_length.specs.OrderLaws.{frames-allowed}
use Rattle.file_dng.proofs.reading.room_refusal.Goals as goal

pub sample_length-requires : goal.sample_length-requires
sample_length-requires c = frames-allowed _ c.args.frame (sym c.in_ok-frame_refusal.ensures)
