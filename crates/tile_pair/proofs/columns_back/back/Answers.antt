use Rattle.tile_pair.specs.Prelude.{◌∙◌, arith, nan, doubles}
use Rattle.tile_spectrum.specs.ColumnLaws.{columns-start, columns-turn, columns-done, column-rest}
use Rattle.tile_pair.proofs.columns_back.back.Goals as goal

pub loop-l-init : goal.loop-l-init
loop-l-init c = columns-start c.requires.is

pub loop-l-preserved : goal.loop-l-preserved
unfolding doubles
loop-l-preserved c =
    columns-turn c.loop-l.invariant (omega arith)
    (λ w. c.backward-z.ensures (λ b. w.number b c.loop-l.l) (λ b. w.most b c.loop-l.l) (c.column-c.ensures nan ∙ column-rest c.loop-l.invariant (omega arith) _ w.is))
    (c.set_column.ensures nan)

pub returns : goal.returns
unfolding doubles
returns c = columns-done c.loop-l.invariant (omega arith)
