-- A pair: filled row by row from the front.
use Rattle.std.proofs.Common.{◌≡◌, ◌/◌, ◌∙◌, arith, rules}
use Rattle.algebra.specs.Prelude.{w64, to_z, of_z, to_z-of_z}
use Rattle.sequences.specs.TabLaws.{fill_start, fill-turn, fill_done}
use Rattle.sequences.specs.Grid.{grid}
use Rattle.merge_view.specs.View.{pair_of, plane_image, plane_sample, pair_row, plane_pair}
use Rattle.merge_view.proofs.fill_pair.Goals as goal

pub loop-i-init : goal.loop-i-init
loop-i-init g c = fill_start (search rules)

pub loop-i-preserved : goal.loop-i-preserved
loop-i-preserved g c =
    let read : to_z w64 (of_z w64 c.along.result) ≡ c.along.result = search rules in
    let half : g.row.LANES / 2 ≡ g.row.SIDE = omega arith in
    fill-turn c.loop-i.invariant (omega arith)
    (c.row.ensures ∙ rw (half, read, c.along.ensures))

pub returns : goal.returns
unfolding plane_pair pair_of grid pair_row plane_sample plane_image
returns g c = rw (← to_z-of_z c.ranges.y, ← to_z-of_z c.ranges.x) (fill_done c.loop-i.invariant (omega arith))
