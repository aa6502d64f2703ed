use Rattle.tile_bin.specs.Doubles.{quantized_by}
use Rattle.tile_bin.proofs.double.quantized.Goals as goal

pub returns : goal.returns
unfolding quantized_by
returns g c = cc
