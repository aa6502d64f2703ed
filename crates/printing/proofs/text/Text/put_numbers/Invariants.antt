-- What is left is the line of the values from k on.
use Rattle.std.proofs.Common.{◌≤◌, drop, length}
use Rattle.printing.specs.Lines.{number_line}
use Rattle.printing.proofs.Lining.{Putting}
use Rattle.printing.proofs.text.Text.put_numbers.Given as goal

abbrev pub invariant-loop-k : goal.invariant-loop-k
invariant-loop-k g l = Putting l.fn.self (number_line l.numbers) l.self (number_line (drop l.k l.numbers)) × (l.k ≤ length l.numbers)
