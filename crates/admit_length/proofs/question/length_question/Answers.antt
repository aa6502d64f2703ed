-- The lengths of a shape that its tests let through.
use Rattle.std.proofs.Common.{sym}
use Rattle.admit_length.specs.OrderLaws.{question-allowed}
use Rattle.admit_length.proofs.question.length_question.Goals as goal

pub length_tested-requires : goal.length_tested-requires
length_tested-requires c = question-allowed _ (sym c.in-Ok.ensures)
