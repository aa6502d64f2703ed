use Rattle.std.proofs.Common.{◌≡◌, ◌-◌, ◌%◌}
use Rattle.refusals.specs.SomeLaws.{Passed}
use Rattle.file_dng.specs.Strip.StripLaws.{above}
use Rattle.file_dng.proofs.strip.strip_refusal.Given as goal

-- no sample passed is above 4095, and what is left is whole blocks of 64
abbrev pub invariant-loop-i : goal.invariant-loop-i
invariant-loop-i l = Passed (above l.fn.file l.fn.start l.fn.count) l.fn.count l.i × ((l.fn.count - l.i) % 64 ≡ 0)
