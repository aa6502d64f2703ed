-- The code's zero is that of the definition.
use Rattle.std.proofs.Common.{ap}
use Rattle.file_dng.specs.Prelude.{of_bits, of_int}
use Rattle.file_dng.specs.Reading.{refused_dng}
use Rattle.file_dng.proofs.reading.answer.Goals as goal

pub returns-in-Err : goal.returns-in-Err
unfolding of_bits of_int
returns-in-Err c = rw c.in-Err.is (ap refused_dng c.number.ensures)
