-- The closure gives one column's sum at each index.
use Rattle.std.proofs.Common.{rules}
use Rattle.std.specs.Prelude.{◌+◌}
use Rattle.sequences.specs.MadeLaws.{made-tab}
use Rattle.align_residual.specs.Residual.{gap}
use Rattle.align_residual.specs.Local.{column_sum}
use Rattle.align_residual.proofs.sixteen.columns.Goals as goal

pub returns : goal.returns
returns c = made-tab c.from_fn.ensures.items (λ j. column_sum gap c.args.tile.now c.args.window.now (c.args.a + j) (c.args.b + j) c.args.stride) (λ i y q h d. search rules)
