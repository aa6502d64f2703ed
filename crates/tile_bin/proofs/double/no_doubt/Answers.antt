use Rattle.tile_bin.specs.Prelude.{refl, of_bits, middle}
use Rattle.floats.specs.QuotientLaws.{slightly_less, certain}
use Rattle.tile_bin.proofs.double.no_doubt.Goals as goal

pub returns : goal.returns
unfolding of_bits middle slightly_less certain
returns c = refl
