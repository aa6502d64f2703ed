use Rattle.tile_bin.specs.Doubles.{power_in, quotients_by}
use Rattle.tile_bin.proofs.double.quotients.Goals as goal

pub returns : goal.returns
unfolding power_in quotients_by
returns g c = cc
