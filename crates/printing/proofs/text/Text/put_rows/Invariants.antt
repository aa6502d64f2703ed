-- What is left is the rows from `row` on.
use Rattle.std.proofs.Common.{◌≤◌, ◌-◌, ◌*◌, drop}
use Rattle.printing.specs.Lines.{sample_rows}
use Rattle.printing.proofs.Lining.{Putting}
use Rattle.printing.proofs.text.Text.put_rows.Given as goal

abbrev pub invariant-loop-row : goal.invariant-loop-row
invariant-loop-row g l = Putting l.fn.self (sample_rows l.width l.height l.samples) l.self (sample_rows l.width (l.height - l.row) (drop (l.row * l.width) l.samples)) × (l.row ≤ l.height)
