use Rattle.std.proofs.Common.{ap, ◌∙◌, sym}
use Rattle.tile_spectrum.specs.Pairs.{added, correction_in}
use Rattle.merge_tiles.specs.Sixteen.{side_is}
use Rattle.merge_tiles.proofs.correcting.SixteenCorrector3216.add_corrections.Goals as goal

pub returns-clause-is : goal.returns-clause-is
returns-clause-is c = c.add_corrections.ensures ∙ ap (λ side. added 16 c.args.sum.now (correction_in side c.args.first c.args.second c.args.d.now)) (sym side_is)
