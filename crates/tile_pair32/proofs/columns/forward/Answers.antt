use Rattle.tile_pair32.specs.Prelude.{◌∙◌, arith, pos, difference_most}
use Rattle.tile_spectrum.specs.Lines.Tiles.{line-most, cells-most}
use Rattle.tile_spectrum.specs.LongLines.{halfcomplex-line}
use Rattle.tile_spectrum.specs.ColumnLaws.{columns-start, columns-turn, columns-done}
use Rattle.tile_pair32.proofs.columns.forward.Goals as goal

pub loop-l-init : goal.loop-l-init
loop-l-init c = columns-start c.requires.1.is

pub halfcomplex-z-requires : goal.halfcomplex-z-requires
halfcomplex-z-requires c = rw (c.column-c.ensures (pos 0)) (line-most difference_most _ (λ y. cells-most c.requires.0 y c.loop-l.l) 32)

pub loop-l-preserved : goal.loop-l-preserved
loop-l-preserved c = columns-turn c.loop-l.invariant (omega arith) (λ _. c.halfcomplex-z.ensures ∙ halfcomplex-line _ (c.column-c.ensures (pos 0))) (c.set_column.ensures (pos 0))

pub returns : goal.returns
returns c = columns-done c.loop-l.invariant (omega arith) tt
