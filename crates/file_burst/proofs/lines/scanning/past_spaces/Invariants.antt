use Rattle.std.proofs.Common.{◌≡◌}
use Rattle.file_burst.specs.Lines.Prelude.{drop}
use Rattle.file_burst.specs.Lines.Line.{past_spaces}
use Rattle.file_burst.proofs.lines.scanning.past_spaces.Given as goal

-- what is past the spaces stays the same
abbrev pub invariant-loop-i : goal.invariant-loop-i
invariant-loop-i l = past_spaces (drop l.i l.fn.file) ≡ past_spaces (drop l.fn.at l.fn.file)
