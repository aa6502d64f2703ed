-- Quads of G with quotients in whole numbers are those of the folded G.
use Rattle.std.specs.Prelude.{◌≡◌, ◌*◌, ◌/◌, ◌%◌, ◌<◌}
use Rattle.tile_wiener_exact.specs.Prelude.{sym, ap, subst, List, ℕ, arith, get_or, ℤ, pos, Float, nan, either, number_of}
use mathlib.Core.List.{map}
use Prim.Native.Nat.{zero-le}
use Rattle.sequences.specs.Grid.{cell}
use Rattle.geometry.specs.Fits.{TileSide}
use Rattle.recipe.specs.Side.{Side}
use Rattle.recipe.specs.Tables.{side16}
use Rattle.recipe.specs.Tables32.{side32}
use Rattle.tile_spectrum.specs.Spectrum.{quad_places, two_bins_of, folded_gain}
use Rattle.tile_spectrum.specs.Pairs.{doubles, by_columns}
use Rattle.tile_spectrum.specs.LongPairs.{long_doubles}
use Rattle.tile_quad.specs.Lanes.{WholeBinsOf, quad_at_of, quad_at, Lanes}
use Rattle.tile_quad.specs.AtSide.{bin_most_at, BinnedAt, GainsAt}
use Rattle.tile_quad.specs.AtSideLaws.{by-side}
use Rattle.tile_quad.specs.QuadGains.{double, BinsFit, bins-fit, long-bins-fit, SmallBins, small-bins, long-small-bins, whole-bins, quad-gains}
use Rattle.tile_quad.specs.FilterLaws.{by-plane, doubles_of, Gains, quad-of, pair-filtered}
use Rattle.tile_bin.specs.Doubles.{bits_of}
use Rattle.tile_bin.specs.DoubleLaws.{Quanta, quanta16, quanta32}
use Rattle.tile_bin.specs.ExactLaws.{exact-gains-are}
use Rattle.tile_wiener_exact.specs.ExactQuads.{exact_quad_by, new_exactly_by}

module _ {s : Side} {most : ℕ} (fit : BinsFit s most) where
  -- a quad of a tile
  exact-gains : {bits : ℕ} → Quanta s bits most → (v : ℕ) (t : ℕ → ℕ → ℤ) → SmallBins s most t → (k u : ℕ) → k < s.half → u < s.half → exact_quad_by bits v k u (map double (quad_places s t k u)) ≡ map double (quad_places s (folded_gain s v t) k u)
  unfolding exact_quad_by
  exact-gains quanta v t small k u h l =
      let bin : ℕ → ℤ = λ i. get_or (two_bins_of s t k u) i (pos 0) in
      let part = small.part k u h l in
      quad-gains fit t small v _ _ k u h l (λ e i o. ap (λ g. number_of g 0) (exact-gains-are quanta v (bin i) (pos 0) (part i) zero-le))
      (λ o. (exact-gains-are quanta v (bin 0) (bin 1) (part 0) (part 1), exact-gains-are quanta v (bin 2) (bin 3) (part 2) (part 3)))

  -- all quads of a pair
  module _ (first second : ℕ) (t : ℕ → ℕ → ℕ → ℤ) (a : SmallBins s most (t 0)) (b : SmallBins s most (t 1)) where
    small_at : (l : ℕ) → SmallBins s most (t (l % 2))
    small_at = by-plane (λ p. SmallBins s most (t p)) a b

    pub exact-quads : {bits : ℕ} → Quanta s bits most → Gains s first second t (new_exactly_by bits first second)
    unfolding new_exactly_by
    exact-quads quanta = record { quad = λ u l h k. exact-gains quanta (either first second (l % 2)) (t (l % 2)) (small_at l) (l / 2) u (omega arith) h }

    pub whole-quad : {b : List (List Float)} → b ≡ doubles_of s (by_columns t) → (u l : ℕ) → u < s.half → l < 2 * s.half → WholeBinsOf most (l / 2) u (quad_at_of s.half (cell nan b) u l)
    whole-quad e u l h k = subst (WholeBinsOf most (l / 2) u) (sym (quad-of s first second t e u l h k)) (whole-bins fit (t (l % 2)) (small_at l) (l / 2) u (omega arith) h)

-- ---- of a side's bins

pub whole-at : {n : ℕ} → TileSide n → (b : List (List Float)) → BinnedAt n b → (u l : ℕ) → u < n / 2 → l < n → WholeBinsOf (bin_most_at n) (l / 2) u (quad_at n (cell nan b) u l)
unfolding side16 side32 doubles long_doubles
whole-at t b =
    by-side t (λ n. BinnedAt n b → (u l : ℕ) → u < n / 2 → l < n → WholeBinsOf (bin_most_at n) (l / 2) u (quad_at n (cell nan b) u l))
    (λ w. whole-quad bins-fit 0 0 w.plane (small-bins w.first) (small-bins w.second) w.is)
    (λ w. whole-quad long-bins-fit 0 0 w.plane (long-small-bins w.first) (long-small-bins w.second) w.is)

pub filtered-at : {n : ℕ} → TileSide n → (first second : ℕ) (b r : List (List Float)) → Lanes n (new_exactly_by (bits_of n) first second) 0 (n * (n / 2)) b r → GainsAt n first second b r
unfolding side16 side32 doubles long_doubles
filtered-at t first second b r =
    by-side t (λ n. Lanes n (new_exactly_by (bits_of n) first second) 0 (n * (n / 2)) b r → GainsAt n first second b r)
    (λ all w. pair-filtered side16 first second w.plane (exact-quads bins-fit first second w.plane (small-bins w.first) (small-bins w.second) quanta16) all all.paired.is w.is)
    (λ all w. pair-filtered side32 first second w.plane (exact-quads long-bins-fit first second w.plane (long-small-bins w.first) (long-small-bins w.second) quanta32) all all.paired.is w.is)
