-- The two comparisons, by `below-zero` and `not-below-infinity`.
use Rattle.std.proofs.Common.{sym, ◌∙◌}
use Rattle.std.specs.Float.Ieee.{of_bits, div}
use Rattle.noise.proofs.Comparisons.{below-zero, not-below-infinity}
use Rattle.noise.proofs.level.invalid_number.Goals as goal

pub returns-then-x : goal.returns-then-x
unfolding of_bits
returns-then-x c = c.if-x.true ∙ sym (below-zero c.args.x c.if-x.true)

pub returns-else-x : goal.returns-else-x
unfolding of_bits div
returns-else-x c = not-below-infinity c.args.x c.if-x.false
