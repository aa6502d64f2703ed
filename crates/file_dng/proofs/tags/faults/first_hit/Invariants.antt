use Rattle.file_dng.specs.Tags.Prelude.{refuse, entries}
use Rattle.file_dng.specs.Tags.RowTests.{row_hit, row_tag}
use Rattle.file_dng.specs.Tags.FaultLaws.{Zeros}
use Rattle.file_dng.proofs.tags.faults.first_hit.Given as goal

-- the rows passed have answered 0
abbrev pub invariant-loop-row : goal.invariant-loop-row
invariant-loop-row l = Zeros (λ row. refuse (row_tag l.fn.test row) (row_hit l.fn.test l.fn.file (entries l.fn.file) row)) l.fn.rows l.row
