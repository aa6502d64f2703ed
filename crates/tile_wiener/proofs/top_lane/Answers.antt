use Rattle.tile_wiener.specs.Prelude.{refl, arith, bits_of, place}
use Rattle.tile_quad.specs.AtSideLaws.{side_even, side_some}
use Rattle.tile_quad.specs.LaneLaws.{lanes_start, lanes-turn}
use Rattle.tile_wiener.specs.NewQuads.{new-top}
use Rattle.tile_wiener.proofs.top_lane.Goals as goal

-- two bins, each with its conjugate
pub returns : goal.returns
returns g c =
    let n = g.row.SIDE in
    let u = c.args.u in
    let l = c.args.l in
    let some = side_some c.requires.pair.sided in
    let even = side_even c.requires.pair.sided in (
      c.quad_at-q.ensures,
      lanes-turn {u = u} {l = l} (lanes_start (place n u l) c.requires.paired) (omega arith) (omega arith) refl c.set_quad.ensures (new-top (bits_of n) c.args.v.now c.args.w.now c.quad_at-q.ensures u l c.requires.u_some c.requires.l_below c.gains-g.ensures c.gains-h.ensures),
    )
