use Rattle.tile_spatial.specs.Prelude.{ap₂, ◌∙◌, lit<, nan, cell}
use Rattle.tile_spectrum.specs.Lines.DoubleCasts.{whole_or}
use Rattle.tile_spectrum.specs.Lines.Tiles.{cell_or}
use Rattle.tile_pair.proofs.WholeRows.{whole_row}
use Rattle.tile_spatial.specs.Steps.{place_of}
use Rattle.tile_spatial.proofs.places.places.Goals as goal

pub zipped-requires : goal.zipped-requires
unfolding cell
zipped-requires c =
    (lit< tt, (lit< tt, (lit< tt, (lit< tt, (lit< tt, (lit< tt, λ y l p q i m n j. (whole_or (whole_row c.requires.0 y i) l p j, whole_or (whole_row c.requires.1 y i) l q j)))))))

pub returns : goal.returns
returns c =
    c.zipped.ensures (λ b l. place_of (cell nan c.args.high.now b l) (cell nan c.args.low.now b l))
    (λ y l p q r i m n j o. o ∙ ap₂ place_of (cell_or c.args.high.now p nan y l 32 m j) (cell_or c.args.low.now q nan y l 32 n j))
