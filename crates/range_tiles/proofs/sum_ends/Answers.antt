-- Both sums go on by one frame a turn.
use Rattle.range_tiles.specs.Prelude.{refl, sym, subst, arith, side16, scene_at}
use Rattle.tile_spectrum.specs.Lines.Lines.{TileMost}
use Rattle.tile_spectrum.specs.Lines.Magnitudes.{difference_most}
use Rattle.merge_tiles.specs.Asked.{Comparable}
use Rattle.merge_tiles.specs.DifferenceLaws.{pair-rows, tile-most}
use Rattle.merge_tiles.specs.Sixteen.{side_is, laws_of_16}
use Rattle.range_tiles.specs.EndSumLaws.{greatest-ending, least-ending, sum-start, sum-turn, sum_room, sum_done}
use Rattle.range_tiles.proofs.sum_ends.Goals as goal

pub loop-k-init : goal.loop-k-init
unfolding scene_at
loop-k-init c =
    let p = c.requires in
    record { greatests = sum-start (omega arith) p.cleared.greatest_is; leasts = sum-start (omega arith) p.cleared.least_is; tz_rows = refl; d_rows = refl }

pub differences-requires : goal.differences-requires
differences-requires c =
    let p = c.requires in
    let a = c.args in
    let i = c.loop-k.invariant in (
      omega arith,
      (
        omega arith,
        (
          omega arith,
          (
            omega arith,
            (
              subst (λ side. Comparable 16 side a.burst.merge a.burst.samples.now a.burst.vectors.now a.site c.loop-k.k a.t0.now c.loop-k.tz c.loop-k.d) (sym side_is)
                  (record { accepted = p.accepted; sited = p.sited; frame = omega arith; tile = p.tile; tz_rows = i.tz_rows; d_rows = i.d_rows }),
              laws_of_16.size,
            ),
          ),
        ),
      ),
    )

pub add_ends-requires : goal.add_ends-requires
add_ends-requires c =
    let p = c.requires in
    let i = c.loop-k.invariant in
    record {
      differences = subst (TileMost difference_most) (sym (rw side_is at c.differences.ensures.are)) (tile-most side16 p.accepted p.sited c.loop-k.k (omega arith));
      lower_fits = p.lower_fits;
      upper_fits = p.upper_fits;
      greatests = sum_room i.greatests;
      leasts = sum_room i.leasts;
    }

pub loop-k-preserved : goal.loop-k-preserved
unfolding scene_at
loop-k-preserved c =
    let p = c.requires in
    let i = c.loop-k.invariant in
    let are = rw side_is at c.differences.ensures.are in
    record {
      greatests = sum-turn greatest-ending i.greatests (omega arith) p.lower_fits p.upper_fits are c.add_ends.ensures.greatest_is;
      leasts = sum-turn least-ending i.leasts (omega arith) p.lower_fits p.upper_fits are c.add_ends.ensures.least_is;
      tz_rows = c.differences.ensures.rows;
      d_rows = pair-rows 16 _ are;
    }

pub returns : goal.returns
unfolding scene_at
returns c = record { greatests = sum_done c.loop-k.invariant.greatests (omega arith); leasts = sum_done c.loop-k.invariant.leasts (omega arith) }
