use Rattle.tile_pair.specs.Prelude.{rules, doubles}
use Rattle.tile_spectrum.specs.ColumnLaws.{paired-grid}
use Rattle.tile_pair.proofs.wiener_of.Goals as goal

pub filter-requires : goal.filter-requires
unfolding doubles
filter-requires c = (search rules, (search rules, record { pair = search rules; paired = paired-grid _ c.requires.binned.is; first_below = c.requires.first_most; second_below = c.requires.second_most }))
