-- Outside the frame lies the right half of the last pair.
use Rattle.std.proofs.Common.{arith}
use Rattle.merge_tiles.specs.StoreLaws.{spread-when}
use Rattle.merge_tiles.proofs.rows.store_right.Goals as goal

pub returns : goal.returns
returns g c = spread-when (omega arith) c.store_half.ensures
