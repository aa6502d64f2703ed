use Rattle.tile_spatial.specs.Prelude.{sym, ap, subst, ◌∙◌, lit<, pos, cell, AtMost, TileMost, copy_most, difference_most}
use Rattle.tile_spectrum.specs.Lines.Tiles.{cells-most, cell_or}
use Rattle.tile_spatial.specs.Steps.{low_of}
use Rattle.tile_spatial.proofs.SplitLaws.{low-at}
use Rattle.tile_spatial.proofs.PairLaws.{table-most}
use Rattle.tile_spatial.proofs.parts.lows.Goals as goal

pub mapped-requires : goal.mapped-requires
mapped-requires c =
    (lit< tt, (lit< tt, (lit< tt, (lit< tt, λ y l p i m j. subst (AtMost copy_most) (cell_or c.args.c.now (pos 0) p y l 32 m j) (record { most = cells-most c.requires y l })))))

pub returns : goal.returns
returns c =
    let e = c.mapped.ensures (λ y l. low_of (cell (pos 0) c.args.c.now y l)) (λ y l p r i m j o. o ∙ ap low_of (cell_or c.args.c.now p (pos 0) y l 32 m j)) in
    (e, subst (TileMost difference_most) (sym e) (table-most difference_most _ (λ y l. (low-at (cell (pos 0) c.args.c.now y l)).most) 16 32))
