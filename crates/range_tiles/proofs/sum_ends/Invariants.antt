-- Both sums go on by one frame a turn.
use Rattle.std.specs.Prelude.{◌≡◌}
use Rattle.range_tiles.specs.Prelude.{length, side16, scene_at, greatest_at, least_at}
use Rattle.range_tiles.specs.EndSumLaws.{Summing}
use Rattle.range_tiles.proofs.sum_ends.Given as goal

abbrev pub invariant-loop-k : goal.invariant-loop-k
invariant-loop-k l =
    let s = scene_at side16 l.fn.burst.merge l.fn.burst.samples.now l.fn.burst.vectors.now in
    record {
      greatests : Summing greatest_at s l.fn.site l.fn.lower l.fn.upper l.k l.greatest;
      leasts : Summing least_at s l.fn.site l.fn.lower l.fn.upper l.k l.least;
      tz_rows : length l.tz ≡ 16;
      d_rows : length l.d ≡ 16;
    }
