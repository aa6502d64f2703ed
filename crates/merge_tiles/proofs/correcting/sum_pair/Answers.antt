-- T0 has its roots and its noise numbers, and what is taken from it is its sums.
use Rattle.std.specs.Prelude.{◌≡◌, ◌≤◌}
use Rattle.merge_tiles.specs.Prelude.{List, ℕ, ℤ, pos, sym, subst, arith, cell, Merge, sample_at, side_of, tile_at, reference_tile, scene_at}
use Rattle.merge_tiles.specs.declared.Site.{Site}
use Rattle.merge_tiles.specs.Sum.{pair_at}
use Rattle.merge_tiles.specs.Places.{side_most, side_of-side}
use Rattle.merge_tiles.specs.DifferenceLaws.{tile-fits, reference-most}
use Rattle.merge_tiles.specs.TileLaws.{roots-of, tile-of}
use Rattle.merge_tiles.proofs.correcting.sum_pair.Goals as goal

-- T0
module _ (n : ℕ) (m : Merge) (samples : List ℕ) (vectors : List ℤ) (site : Site) {t0 : List (List ℕ)} where
  tile-is : t0 ≡ pair_at n (λ r p. tile_at (side_of n) m.shape.height m.shape.width r p (sample_at m.shape samples m.reference) (pos 0) (pos 0)) site → t0 ≡ pair_at n (reference_tile (scene_at (side_of n) m samples vectors)) site
  unfolding reference_tile scene_at
  tile-is e = e

pub pair_roots-roots-requires : goal.pair_roots-roots-requires
unfolding cell
pair_roots-roots-requires g c =
    let a = c.args in
    let size = g.met.C.Corrector.laws.size in
    let fits = tile-fits g.row.SIDE _ (reference-most (side_of g.row.SIDE) c.requires.accepted c.requires.sited) (tile-is g.row.SIDE a.burst.merge a.burst.samples.now a.burst.vectors.now a.site c.pair.ensures) in
    (omega arith, (omega arith, (record { places = size.twice; side_most = side_most size.sided }, record { most = λ i l. (fits.row i).most l })))

pub summed-requires : goal.summed-requires
summed-requires g c =
    let a = c.args in
    let ok = c.requires.accepted in
    let laws = g.met.C.Corrector.laws in
    let r = c.pair_roots-roots.ensures in
    let low = subst (λ v. v ≤ g.C.Corrector.noise_top) (sym c.tile_noise-first.ensures) (laws.noise _ _ _ _ ok.strength_most ok.shot_most ok.read_most r.first_most) in
    let high = subst (λ v. v ≤ g.C.Corrector.noise_top) (sym c.tile_noise-second.ensures) (laws.noise _ _ _ _ ok.strength_most ok.shot_most ok.read_most r.second_most) in (
      omega arith,
      (
        omega arith,
        (
          omega arith,
          (
            omega arith,
            (
              c.requires.ready,
              record {
                accepted = ok;
                sited = c.requires.sited;
                tile = tile-of g.row.SIDE (side_of g.row.SIDE) (side_of-side laws.size.sided) a.burst.merge a.burst.samples.now a.burst.vectors.now a.site (tile-is g.row.SIDE a.burst.merge a.burst.samples.now a.burst.vectors.now a.site c.pair.ensures)
                    c.plane_black-first_black.ensures c.plane_black-second_black.ensures r.first r.second c.tile_noise-first.ensures c.tile_noise-second.ensures low high;
                cleared = c.requires.cleared;
              },
            ),
          ),
        ),
      ),
    )

pub returns-clause-summed : goal.returns-clause-summed
returns-clause-summed g c =
    let a = c.args in
    let r = c.pair_roots-roots.ensures in
    let tile = tile-is g.row.SIDE a.burst.merge a.burst.samples.now a.burst.vectors.now a.site c.pair.ensures in
    record {
      tile = tile;
      roots = roots-of g.row.SIDE (side_of g.row.SIDE) (side_of-side g.met.C.Corrector.laws.size.sided) a.burst.merge a.burst.samples.now a.burst.vectors.now a.site tile
          c.plane_black-first_black.ensures c.plane_black-second_black.ensures r.first r.second;
      first_most = r.first_most;
      second_most = r.second_most;
      sums = c.summed.ensures.summed;
    }
