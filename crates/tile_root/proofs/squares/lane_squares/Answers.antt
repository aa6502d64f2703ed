use Rattle.std.specs.Prelude.{◌≡◌}
use Rattle.tile_root.specs.Prelude.{◌∙◌, arith, cell}
use Rattle.tile_root.proofs.Lanes.{lanes_fit, lanes-none, lanes-turn}
use Rattle.tile_root.proofs.squares.lane_squares.Goals as goal

pub loop-row-init : goal.loop-row-init
loop-row-init g c = lanes-none g.row.LANES _ _

pub add_squares-requires : goal.add_squares-requires
unfolding cell
add_squares-requires g c = (
  omega arith,
  (
    omega arith,
    (
      record { most = c.requires.1.most c.loop-row.row-index },
      lanes_fit g.row.LANES _ _ c.requires.1 c.loop-row.row-index 31 (omega arith) c.loop-row.invariant,
    ),
  ),
)

pub loop-row-preserved : goal.loop-row-preserved
loop-row-preserved g c = c.add_squares.ensures ∙ lanes-turn g.row.LANES _ _ c.loop-row.row-index c.loop-row.invariant

pub returns : goal.returns
returns g c =
    let e : c.loop-row.row-index ≡ g.row.SIDE = omega arith in
    (rw e at c.loop-row.invariant, lanes_fit g.row.LANES _ _ c.requires.1 c.loop-row.row-index g.row.SIDE (omega arith) c.loop-row.invariant)
