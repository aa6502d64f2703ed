use Rattle.std.proofs.Common.{◌≡◌, ◌-◌}
use Rattle.file_burst.specs.Lines.Prelude.{false, drop}
use Rattle.file_burst.specs.Lines.Line.{values_of}
use Rattle.file_burst.specs.Lines.Scan.{judged}
use Rattle.file_burst.proofs.lines.lines.scan_line.Given as goal

-- the judgement of the whole line is that of the values left, with what is known of those passed
abbrev pub invariant-loop-k : goal.invariant-loop-k
invariant-loop-k l = judged l.over l.fn.bound (values_of (l.fn.count - l.k) (drop l.i l.fn.file)) ≡ judged false l.fn.bound (values_of l.fn.count (drop l.fn.at l.fn.file))
