use Rattle.std.proofs.Common.{◌+◌}
use Rattle.sequences.specs.Write.{Writing}
use Rattle.file_dng.specs.Strip.Strip.{strip_sample}
use Rattle.file_dng.proofs.strip.fill_row.Given as goal

-- the samples passed stand in their places
abbrev pub invariant-loop-i : goal.invariant-loop-i
invariant-loop-i l = Writing l.fn.samples l.fn.at (λ column. strip_sample l.fn.file l.fn.start (l.fn.first + column)) l.fn.width l.i l.samples
