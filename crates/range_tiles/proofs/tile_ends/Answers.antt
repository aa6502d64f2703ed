-- T0 has its roots, and at either noise its noise numbers.
use Rattle.std.specs.Prelude.{◌≡◌, ◌<◌}
use Rattle.range_tiles.specs.Prelude.{List, ℕ, ℤ, refl, pos, arith, lit≤, cell, side16, Merge, reference_tile, tile_noise, scene_at, greatest_at, least_at, Noises, noise_of, at_site, pair_at}
use Rattle.geometry.specs.Read.{sample_at}
use Rattle.recipe.specs.Scene.{tile_at, black_of}
use Rattle.recipe.specs.Sides.{side_of}
use Rattle.tile_root.specs.Range.{PairRoots}
use Rattle.merge_tiles.specs.declared.Site.{Site}
use Rattle.merge_tiles.specs.DifferenceLaws.{tile-fits, reference-most}
use Rattle.merge_tiles.specs.Sixteen.{side_is}
use Rattle.merge_tiles.specs.TileLaws.{numbers_of}
use Rattle.range_tiles.specs.EndSums.{raised, tile_pair, NoisesAre}
use Rattle.range_tiles.specs.EndSumLaws.{end-taken}
use Rattle.range_tiles.proofs.tile_ends.Goals as goal

sided : side16.side ≡ 16
unfolding side16
sided = refl

-- T0, which is that of either scene
tile-is : (m : Merge) (samples : List ℕ) (vectors : List ℤ) (site : Site) {t0 : List (List ℕ)} →
    t0 ≡ pair_at 16 (λ r p. tile_at (side_of 16) m.shape.height m.shape.width r p (sample_at m.shape samples m.reference) (pos 0) (pos 0)) site → t0 ≡ tile_pair (scene_at side16 m samples vectors) site
unfolding reference_tile scene_at
tile-is m samples vectors site e = rw side_is at e

-- the noise numbers of either plane, by T0
numbers-known : (m : Merge) (samples : List ℕ) (vectors : List ℤ) (site : Site) {t0 : List (List ℕ)} → t0 ≡ tile_pair (scene_at side16 m samples vectors) site
    → {even odd first second : ℕ} → even ≡ black_of m.tuning site.parity 0 → odd ≡ black_of m.tuning site.parity 1 → PairRoots 16 even odd t0 first second
    → {v : Noises} → NoisesAre m.tuning.strength m.shot m.read first second v → (p : ℕ) → p < 2 → noise_of v p ≡ at_site (tile_noise (scene_at side16 m samples vectors)) site p
numbers-known m samples vectors site e black black' roots known = numbers_of 16 side16 sided m samples vectors site e black black' roots.first roots.second known.first_is known.second_is

pub pair_roots-roots-requires : goal.pair_roots-roots-requires
unfolding cell
pair_roots-roots-requires c =
    let a = c.args in
    let fits = tile-fits 16 _ (reference-most side16 c.requires.accepted c.requires.sited) (tile-is a.burst.merge a.burst.samples.now a.burst.vectors.now a.site c.pair.ensures) in
    (omega arith, (omega arith, (record { places = refl; side_most = lit≤ tt }, record { most = λ i l. (fits.row i).most l })))

pub summed-requires : goal.summed-requires
summed-requires c =
    let a = c.args in
    let p = c.requires in
    record {
      accepted = p.accepted;
      sited = p.sited;
      tile = tile-is a.burst.merge a.burst.samples.now a.burst.vectors.now a.site c.pair.ensures;
      lower_fits = c.noises-low.ensures.fits;
      upper_fits = c.noises-high.ensures.fits;
      cleared = p.cleared;
    }

pub returns : goal.returns
unfolding scene_at
returns c =
    let a = c.args in
    let few = c.requires.accepted.burst.allowed.few in
    let black = c.plane_black-first_black.ensures in
    let black' = c.plane_black-second_black.ensures in
    let roots = c.pair_roots-roots.ensures in
    let high = raised a.burst.merge a.upper in
    let low = numbers-known a.burst.merge a.burst.samples.now a.burst.vectors.now a.site (tile-is a.burst.merge a.burst.samples.now a.burst.vectors.now a.site c.pair.ensures) black black' roots c.noises-low.ensures in
    let up = numbers-known high a.burst.samples.now a.burst.vectors.now a.site (tile-is high a.burst.samples.now a.burst.vectors.now a.site c.pair.ensures) black black' roots c.noises-high.ensures in
    record {
      greatests = end-taken greatest_at _ _ a.site (omega arith) low up c.summed.ensures.greatests;
      leasts = end-taken least_at _ _ a.site (omega arith) low up c.summed.ensures.leasts;
    }
