use Rattle.std.proofs.Common.{◌≡◌, ◌-◌, ◌%◌}
use Rattle.refusals.specs.SomeLaws.{Passed}
use Rattle.admit_value.specs.Excess.{above}
use Rattle.admit_value.proofs.row_above.Given as goal

-- no sample passed is above 4095, and what is left of the row is whole blocks of 64
abbrev pub invariant-loop-column : goal.invariant-loop-column
invariant-loop-column l = Passed (above l.fn.samples l.fn.start) l.fn.width l.column × ((l.fn.width - l.column) % 64 ≡ 0)
