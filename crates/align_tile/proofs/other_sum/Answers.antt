-- The same candidate's residual is at hand.
use Rattle.align_tile.specs.Prelude.{sym, ap, ◌∙◌, false, residual}
use Rattle.align_tile.specs.Stored.{pair_in}
use Rattle.align_tile.proofs.other_sum.Goals as goal

pub returns-then-same : goal.returns-then-same
returns-then-same c = c.requires.first_is ∙ ap (residual false (pair_in c.args.words.now c.args.area) c.args.tile) (sym (c.same.ensures c.if-same.true))
