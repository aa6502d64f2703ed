-- Each answer, by `above` at 64 = 2 ^ 6 and 4096 = 2 ^ 12.
use Rattle.std.proofs.Common.{sym, ◌∙◌}
use Rattle.std.specs.Float.Ieee.{of_bits}
use Rattle.noise.specs.Levels.{above_limits}
use Rattle.noise.proofs.Comparisons.{above}
use Rattle.noise.proofs.level.above_limits.Goals as goal

pub returns-then-curve : goal.returns-then-curve
unfolding above_limits of_bits
returns-then-curve c = rw (sym (above 6 c.args.curve.shot) ∙ c.if-curve.true) c.if-curve.true

pub returns-else-curve : goal.returns-else-curve
unfolding above_limits of_bits
returns-else-curve c = rw (sym (above 6 c.args.curve.shot) ∙ c.if-curve.false) (above 12 c.args.curve.read)
