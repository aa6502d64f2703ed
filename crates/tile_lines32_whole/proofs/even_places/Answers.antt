use Rattle.algebra.specs.Prelude.{◌∙◌, pos}
use Rattle.tile_spectrum.specs.Lines.WholeFolds.{placed-is}
use Rattle.tile_lines32_whole.proofs.even_places.Goals as goal

pub returns : goal.returns
returns c = c.interleaved.ensures (pos 0) ∙ placed-is _ c.first_places-e.ensures c.second_places-o.ensures
