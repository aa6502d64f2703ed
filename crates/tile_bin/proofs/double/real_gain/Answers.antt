use Rattle.tile_bin.specs.Prelude.{ap, get_or, nan, of_bits, of_int}
use Rattle.tile_bin.specs.Doubles.{real_gain_by}
use Rattle.tile_bin.proofs.double.real_gain.Goals as goal

-- The other part is 0.
pub returns : goal.returns
unfolding of_bits of_int real_gain_by
returns g c = ap (λ q. get_or q 0 nan) c.gains-g.ensures
