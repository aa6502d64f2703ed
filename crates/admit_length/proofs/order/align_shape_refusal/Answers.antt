-- The lengths of a burst that its tests let through.
use Rattle.std.proofs.Common.{sym}
use Rattle.admit_length.specs.OrderLaws.{burst-allowed}
use Rattle.admit_length.proofs.order.align_shape_refusal.Goals as goal

pub align_lengths-requires : goal.align_lengths-requires
align_lengths-requires c = burst-allowed _ c.args.reference (sym c.in_ok-burst_refusal.ensures)
