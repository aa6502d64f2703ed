use Rattle.tile_pair32.specs.Prelude.{rules, long_doubles}
use Rattle.tile_spectrum.specs.ColumnLaws.{long-paired-grid}
use Rattle.tile_pair32.proofs.Corrections.{binned_pair}
use Rattle.tile_pair32.proofs.gains.Goals as goal

pub filter-requires : goal.filter-requires
unfolding long_doubles
filter-requires c = (search rules, (search rules, record { pair = search rules; paired = long-paired-grid _ c.forward.ensures; first_below = c.requires.first_most; second_below = c.requires.second_most }))

pub returns-then-filter : goal.returns-then-filter
returns-then-filter c = c.filter.ensures.is c.if-filter.true (binned_pair c.requires.differences c.forward.ensures)

pub filter_exactly-requires : goal.filter_exactly-requires
filter_exactly-requires c = (search rules, (search rules, record { pair = search rules; binned = binned_pair c.requires.differences c.forward-2.ensures; first_below = c.requires.first_most; second_below = c.requires.second_most }))

pub returns : goal.returns
returns c = c.filter_exactly.ensures (binned_pair c.requires.differences c.forward-2.ensures)
