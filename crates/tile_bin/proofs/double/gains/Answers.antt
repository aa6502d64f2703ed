use Rattle.tile_bin.specs.Doubles.{gains_by}
use Rattle.tile_bin.proofs.double.gains.Goals as goal

pub returns : goal.returns
unfolding gains_by
returns g c = cc
