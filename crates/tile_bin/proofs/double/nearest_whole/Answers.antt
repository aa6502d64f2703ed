use Rattle.tile_bin.specs.Prelude.{refl, of_bits, middle}
use Rattle.tile_bin.specs.Doubles.{nearest_whole}
use Rattle.tile_bin.proofs.double.nearest_whole.Goals as goal

pub returns : goal.returns
unfolding of_bits middle nearest_whole
returns c = refl
