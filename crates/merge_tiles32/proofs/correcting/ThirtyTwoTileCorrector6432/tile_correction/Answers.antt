-- Without a filter, what is taken from T0 is its sums.
use Rattle.merge_tiles32.specs.Prelude.{arith, lit≤, scene_at}
use Rattle.merge_tiles32.specs.Sizes.{long_small_most}
use Rattle.merge_tiles.specs.TileLaws.{taken-off}
use Rattle.merge_tiles32.proofs.correcting.ThirtyTwoTileCorrector6432.tile_correction.Goals as goal

pub returns-clause-taken : goal.returns-clause-taken
unfolding scene_at
returns-clause-taken c =
    let ok = c.requires.accepted in
    let few = ok.burst.allowed.few in
    taken-off _ _ (ok.unfiltered ok.side_is) 32 long_small_most (omega arith) (lit≤ tt) c.sum_pair-roots.ensures.summed.sums
