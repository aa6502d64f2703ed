-- What holds of a pair of tiles of side 16 and of one of side 32.
use Rattle.std.specs.Prelude.{Float, ◌≡◌, ◌*◌, ◌/◌, ◌≤◌}
use Rattle.tile_quad.specs.Prelude.{refl, eqb, List, ℕ, lit≤, nan, PairedOf}
use Rattle.std.proofs.Common.{le_refl}
use Rattle.geometry.specs.Fits.{TileSide}
use Rattle.sequences.specs.Grid.{grid-of}
use Rattle.recipe.specs.SideLaws.{by-table}
use Rattle.tile_spectrum.specs.Magnitudes.{noise_most}
use Rattle.tile_spectrum.specs.Apart.{cond_cases}
use Rattle.tile_spectrum.specs.Pairs.{doubles}
use Rattle.tile_spectrum.specs.LongPairs.{long_doubles}
use Rattle.tile_quad.specs.Lanes.{IsEvenPair}
use Rattle.tile_quad.specs.AtSide.{IsPair, noise_most_at, BinnedAt}

-- what holds of 16 and of 32 holds of a side
pub by-side : {n : ℕ} → TileSide n → (P : ℕ → Type 0) → P 16 → P 32 → P n
by-side t P a b = by-table t (λ n s. P n) a b

pub side_even : {n : ℕ} → TileSide n → n ≡ 2 * (n / 2)
side_even t = by-side t (λ n. n ≡ 2 * (n / 2)) refl refl

pub side_some : {n : ℕ} → TileSide n → 16 ≤ n
side_some t = by-side t (λ n. 16 ≤ n) (lit≤ tt) (lit≤ tt)

pub even-pair : {w n : ℕ} → IsPair w n → IsEvenPair w n
even-pair p = record { places = p.places; even = side_even p.sided }

pub noise-within : (n : ℕ) → noise_most_at n ≤ noise_most
noise-within n = cond_cases (λ m. m ≤ noise_most) (eqb n 32) (lit≤ tt) (le_refl noise_most)

pub binned-paired : {n : ℕ} → TileSide n → {b : List (List Float)} → BinnedAt n b → PairedOf n nan b
unfolding doubles long_doubles
binned-paired t {b} = by-side t (λ n. BinnedAt n b → PairedOf n nan b) (λ w. record { is = grid-of nan 16 32 _ w.is }) (λ w. record { is = grid-of nan 32 64 _ w.is })
