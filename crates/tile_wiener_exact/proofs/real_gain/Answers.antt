use Rattle.tile_wiener_exact.specs.Prelude.{refl, ap, pos, of_bits, of_int, number_of}
use Prim.Native.Nat.{zero-le}
use Rattle.tile_wiener_exact.proofs.real_gain.Goals as goal

-- The other part is 0.
pub gains-g-requires : goal.gains-g-requires
unfolding of_bits of_int
gains-g-requires g c = record { sided = c.requires.0; noise_below = c.requires.1; first = c.requires.2; second = record { number = pos 0; most = zero-le; is = refl } }

pub returns : goal.returns
unfolding of_bits of_int
returns g c = ap (λ g. number_of g 0) c.gains-g.ensures
