use Rattle.std.proofs.Common.{◌-◌}
use Rattle.file_pgm.proofs.header.Scanning.{Scanning}
use Rattle.file_pgm.proofs.header.digits.leading.Given as goal

-- what the bytes from the place on say, behind the digits read so far, stays the same
abbrev pub invariant-loop : goal.invariant-loop
invariant-loop l = Scanning l.fn.bytes l.fn.at (4 - l.counter) l.value l.i
