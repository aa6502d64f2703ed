-- The lengths of a burst that its tests let through.
use Rattle.std.proofs.Common.{sym}
use Rattle.admit_length.specs.OrderLaws.{burst-allowed}
use Rattle.admit_length.proofs.order.merge_shape_refusal.Goals as goal

pub merge_lengths-requires : goal.merge_lengths-requires
merge_lengths-requires c = burst-allowed _ c.args.reference (sym c.in_ok-burst_refusal.ensures)
