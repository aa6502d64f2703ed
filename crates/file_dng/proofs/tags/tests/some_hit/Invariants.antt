use Rattle.file_dng.specs.Tags.Prelude.{entries}
use Rattle.refusals.specs.SomeLaws.{Passed}
use Rattle.file_dng.specs.Tags.RowTests.{row_hit}
use Rattle.file_dng.proofs.tags.tests.some_hit.Given as goal

-- no row passed is hit
abbrev pub invariant-loop-row : goal.invariant-loop-row
invariant-loop-row l = Passed (λ row. row_hit l.fn.test l.fn.file (entries l.fn.file) row) l.fn.rows l.row
