-- The lengths of a shape that its tests let through.
use Rattle.std.proofs.Common.{sym}
use Rattle.admit_length.specs.OrderLaws.{question-allowed}
use Rattle.admit_length.proofs.bands.band_work_question.Goals as goal

pub band_work_length-requires : goal.band_work_length-requires
band_work_length-requires c = question-allowed _ (sym c.in-Ok.ensures)
