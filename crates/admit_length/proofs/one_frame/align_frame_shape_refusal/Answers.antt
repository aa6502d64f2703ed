-- What the burst's tests let through.
use Rattle.std.proofs.Common.{sym}
use Rattle.admit_length.specs.OrderLaws.{burst-allowed}
use Rattle.admit_length.proofs.one_frame.align_frame_shape_refusal.Goals as goal

pub other_refusal-requires : goal.other_refusal-requires
other_refusal-requires c = (burst-allowed _ c.args.reference (sym c.in_ok-burst_refusal.ensures)).0

pub align_frame_lengths-requires : goal.align_frame_lengths-requires
align_frame_lengths-requires c = burst-allowed _ c.args.reference (sym c.in_ok-burst_refusal.ensures)
