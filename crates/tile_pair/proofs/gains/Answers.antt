use Rattle.tile_pair.specs.Prelude.{refl, rules, binary64, of_bits, tab, grid, doubles}
use Rattle.tile_spectrum.specs.ColumnLaws.{paired-grid}
use Rattle.tile_pair.proofs.Corrections.{binned_pair}
use Rattle.tile_pair.proofs.gains.Goals as goal

pub filter-requires : goal.filter-requires
unfolding doubles
filter-requires c = (search rules, (search rules, record { pair = search rules; paired = paired-grid _ c.forward-g.ensures; first_below = c.requires.first_most; second_below = c.requires.second_most }))

pub returns-then-filter : goal.returns-then-filter
returns-then-filter c = c.filter.ensures.is c.if-filter.true (binned_pair c.requires.differences c.forward-g.ensures)

pub forward_into-requires : goal.forward_into-requires
unfolding grid tab
forward_into-requires c = (c.requires.differences, paired-grid (λ k l. of_bits binary64 0) refl)

pub filter_exactly-requires : goal.filter_exactly-requires
filter_exactly-requires c = (search rules, (search rules, record { pair = search rules; binned = binned_pair c.requires.differences c.forward_into.ensures; first_below = c.requires.first_most; second_below = c.requires.second_most }))

pub returns : goal.returns
returns c = c.filter_exactly.ensures (binned_pair c.requires.differences c.forward_into.ensures)
