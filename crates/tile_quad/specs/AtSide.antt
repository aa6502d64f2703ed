-- Inside the crates of the merge: pairs of tiles of side n, 32 or else 16, with what goes with the side.
use Rattle.std.specs.Prelude.{Float, ◌≡◌, ◌*◌}
use Rattle.tile_quad.specs.Prelude.{cond, eqb, List, ℕ}
use Rattle.geometry.specs.Fits.{TileSide}
use Rattle.tile_spectrum.specs.Magnitudes.{bin_most, noise_most, long_bin_most, long_noise_most}
use Rattle.tile_spectrum.specs.Pairs.{BinnedPair, GainsOf}
use Rattle.tile_spectrum.specs.LongPairs.{LongBinnedPair, LongGainsOf}

-- in rows of w places
pub record IsPair (w n : ℕ) : Type 0 where
  pub places : w ≡ 2 * n
  pub sided : TileSide n

-- a part of B, and V
abbrev pub bin_most_at : ℕ → ℕ
bin_most_at n = cond (eqb n 32) long_bin_most bin_most

abbrev pub noise_most_at : ℕ → ℕ
noise_most_at n = cond (eqb n 32) long_noise_most noise_most

-- bins of a pair of planes of differences, and their folded G
abbrev pub BinnedAt : ℕ → List (List Float) → Type 0
BinnedAt n = cond (eqb n 32) LongBinnedPair BinnedPair

abbrev pub GainsAt : (n first second : ℕ) (b g : List (List Float)) → Type 0
GainsAt n = cond (eqb n 32) LongGainsOf GainsOf
