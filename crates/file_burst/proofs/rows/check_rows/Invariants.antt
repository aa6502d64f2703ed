use Rattle.std.proofs.Common.{◌≡◌, ◌-◌}
use Rattle.file_burst.specs.Prelude.{drop}
use Rattle.file_burst.specs.Rows.{row_lines}
use Rattle.file_burst.specs.Passage.{briefly}
use Rattle.file_burst.proofs.rows.check_rows.Given as goal

-- what the rows left make of the file from the position on stays the same
abbrev pub invariant-loop : goal.invariant-loop
invariant-loop l = briefly (row_lines (l.fn.count - l.counter) l.fn.width (drop l.next l.fn.file)) ≡ briefly (row_lines l.fn.count l.fn.width (drop l.fn.at l.fn.file))
