use Rattle.algebra.specs.Prelude.{◌∙◌, pos}
use Rattle.tile_spectrum.specs.Lines.WholeFolds.{placed-is}
use Rattle.tile_lines.proofs.whole.halfcomplex.Goals as goal

pub returns : goal.returns
returns c = c.interleaved.ensures (pos 0) ∙ placed-is _ c.even_places-e.ensures c.odd_places-o.ensures
