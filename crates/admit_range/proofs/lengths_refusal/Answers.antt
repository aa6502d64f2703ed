-- The lengths of a shape that its tests let through.
use Rattle.std.proofs.Common.{sym}
use Rattle.admit_range.specs.RefusalLaws.{frame-allowed}
use Rattle.admit_range.proofs.lengths_refusal.Goals as goal

pub sample_length-requires : goal.sample_length-requires
sample_length-requires c = (frame-allowed _ _ (sym c.in_ok-frame_refusal.ensures) (sym c.in_ok-row_refusal.ensures)).0

pub vector_length-requires : goal.vector_length-requires
vector_length-requires c = frame-allowed _ _ (sym c.in_ok-frame_refusal.ensures) (sym c.in_ok-row_refusal.ensures)

pub output_length-requires : goal.output_length-requires
output_length-requires c = (frame-allowed _ _ (sym c.in_ok-frame_refusal.ensures) (sym c.in_ok-row_refusal.ensures)).0

pub output_length-requires-2 : goal.output_length-requires-2
output_length-requires-2 c = (frame-allowed _ _ (sym c.in_ok-frame_refusal.ensures) (sym c.in_ok-row_refusal.ensures)).0

pub work_length-requires : goal.work_length-requires
work_length-requires c = (frame-allowed _ _ (sym c.in_ok-frame_refusal.ensures) (sym c.in_ok-row_refusal.ensures)).0
