use Rattle.std.proofs.Common.{ap, ◌∙◌, sym}
use Rattle.tile_spectrum.specs.Pairs.{added, correction_in}
use Rattle.merge_tiles32.specs.Sizes.{side_is}
use Rattle.merge_tiles32.proofs.correcting.ThirtyTwoCorrector6432.add_corrections.Goals as goal

pub returns-clause-is : goal.returns-clause-is
returns-clause-is c = c.add_corrections.ensures.is ∙ ap (λ side. added 32 c.args.sum.now (correction_in side c.args.first c.args.second c.args.d.now)) (sym side_is)
