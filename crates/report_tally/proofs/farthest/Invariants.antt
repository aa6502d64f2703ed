-- The greatest so far is that of the parts passed.
use Rattle.std.proofs.Common.{◌≡◌}
use Rattle.report_tally.specs.Tallies.{reach, greatest}
use Rattle.report_tally.proofs.farthest.Given as goal

abbrev pub invariant-loop-part : goal.invariant-loop-part
invariant-loop-part l = l.far ≡ greatest l.part-index (reach l.vectors)
