-- The sum goes on by one frame a turn.
use Rattle.std.specs.Prelude.{◌≤◌}
use Rattle.merge_tiles.specs.Prelude.{refl, sym, subst, arith, lit≤, eqb, side_of, scene_at, TileMost}
use Rattle.std.proofs.Common.{le_trans}
use Rattle.std.proofs.lemmas.List.{length-replicate}
use Rattle.tile_spectrum.specs.Lines.Magnitudes.{difference_most}
use Rattle.tile_spectrum.specs.Apart.{cond_cases}
use Rattle.merge_tiles.specs.DifferenceLaws.{pair-rows, tile-most}
use Rattle.merge_tiles.specs.Places.{side_of-side}
use Rattle.merge_tiles.specs.SumLaws.{sum-start, sum-turn, sum-paired, sum-small, sum_done}
use Rattle.merge_tiles.proofs.correcting.corrections.Goals as goal

pub loop-k-init : goal.loop-k-init
unfolding scene_at
loop-k-init g c = record { ready = c.requires.ready; sums = sum-start (side_of-side g.met.C.Corrector.laws.size.sided) (omega arith) c.requires.asked.cleared; tz_rows = length-replicate _ _; d_rows = length-replicate _ _ }

pub differences-requires : goal.differences-requires
differences-requires g c =
    let r = c.requires.asked in (
      omega arith,
      (
        omega arith,
        (
          omega arith,
          (
            omega arith,
            (
              record {
                accepted = r.accepted;
                sited = r.sited;
                frame = omega arith;
                tile = r.tile.is;
                tz_rows = c.loop-k.invariant.tz_rows;
                d_rows = c.loop-k.invariant.d_rows;
              },
              g.met.C.Corrector.laws.size,
            ),
          ),
        ),
      ),
    )

pub add_corrections-requires : goal.add_corrections-requires
add_corrections-requires g c =
    let r = c.requires.asked in
    let few = g.met.C.Corrector.laws.few in (
      omega arith,
      (
        omega arith,
        (
          omega arith,
          (
            omega arith,
            record {
              ready = c.loop-k.invariant.ready;
              differences = subst (TileMost difference_most) (sym c.differences.ensures.are) (tile-most (side_of g.row.SIDE) r.accepted r.sited c.loop-k.k (omega arith));
              first_most = r.tile.first_most;
              second_most = r.tile.second_most;
              sums_most = sum-small (le_trans few (lit≤ tt)) c.loop-k.invariant.sums;
              paired = sum-paired c.loop-k.invariant.sums;
            },
          ),
        ),
      ),
    )

pub loop-k-preserved : goal.loop-k-preserved
unfolding scene_at
loop-k-preserved g c =
    let laws = g.met.C.Corrector.laws in
    let r = c.requires.asked in
    record {
      ready = c.add_corrections.ensures.ready;
      sums = sum-turn c.loop-k.invariant.sums (omega arith) (side_of g.row.SIDE) refl c.args.first c.args.second r.tile.number c.differences.ensures.are c.add_corrections.ensures.is
          (λ p h. laws.correction _ (subst (λ n. n ≤ g.C.Corrector.noise_top) (r.tile.number p h) (cond_cases (λ n. n ≤ g.C.Corrector.noise_top) (eqb p 0) r.tile.first_most r.tile.second_most)) _);
      tz_rows = c.differences.ensures.rows;
      d_rows = pair-rows g.row.SIDE _ c.differences.ensures.are;
    }

pub returns-clause-summed : goal.returns-clause-summed
unfolding scene_at
returns-clause-summed g c = sum_done c.loop-k.invariant.sums (omega arith)
