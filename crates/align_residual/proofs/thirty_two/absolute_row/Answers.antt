-- Its two halves.
use Rattle.algebra.specs.Prelude.{◌∙◌, false}
use Rattle.align_residual.specs.ThirtyTwoLaws.{row-halves}
use Rattle.align_residual.proofs.thirty_two.absolute_row.Goals as goal

pub returns : goal.returns
returns c = let e = c.absolute_pair.ensures in (e.0 ∙ row-halves false c.args.tile.now c.args.window.now c.args.a c.args.b, e.1)
