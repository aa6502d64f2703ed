-- Outside the frame lies the left half of the first pair.
use Rattle.std.proofs.Common.{arith}
use Rattle.merge_tiles.specs.StoreLaws.{spread-when}
use Rattle.merge_tiles.proofs.rows.store_left.Goals as goal

pub returns : goal.returns
returns g c = spread-when (omega arith) c.store_half.ensures
