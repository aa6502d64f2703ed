-- A tile of differences: filled row by row from the front.
use Rattle.std.proofs.Common.{arith, rules}
use Rattle.merge_tiles.specs.Prelude.{grid, cell}
use Rattle.sequences.specs.TabLaws.{fill_start, fill-turn, fill_done}
use Rattle.merge_tiles.proofs.reading.difference.Goals as goal

pub difference_row-requires : goal.difference_row-requires
difference_row-requires g c = (omega arith, (omega arith, (c.requires.reference.row c.loop-i.i, c.requires.other.row c.loop-i.i)))

pub loop-i-init : goal.loop-i-init
loop-i-init g c = fill_start (search rules)

pub loop-i-preserved : goal.loop-i-preserved
unfolding cell
loop-i-preserved g c = fill-turn c.loop-i.invariant (omega arith) c.difference_row.ensures

pub returns : goal.returns
unfolding grid
returns g c = fill_done c.loop-i.invariant (omega arith)
