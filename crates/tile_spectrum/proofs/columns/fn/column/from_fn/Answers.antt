use Rattle.sequences.specs.Grid.{cell}
use Rattle.tile_spectrum.proofs.columns.fn.column.from_fn.Goals as goal

pub returns : goal.returns
unfolding cell
returns g c o = c.lane.ensures o
