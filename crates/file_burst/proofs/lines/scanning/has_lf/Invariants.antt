use Rattle.std.proofs.Common.{◌≡◌}
use Rattle.file_burst.specs.Lines.Prelude.{drop}
use Rattle.file_burst.specs.Lines.Line.{has_lf}
use Rattle.file_burst.proofs.lines.scanning.has_lf.Given as goal

-- whether an LF follows stays the same
abbrev pub invariant-loop-i : goal.invariant-loop-i
invariant-loop-i l = has_lf (drop l.i l.fn.file) ≡ has_lf (drop l.fn.at l.fn.file)
