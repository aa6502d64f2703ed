use Rattle.std.specs.Prelude.{◌+◌}
use Rattle.tile_wiener.specs.Prelude.{refl, arith, lit<, bits_of, place}
use Rattle.tile_quad.specs.AtSideLaws.{side_even, side_some}
use Rattle.tile_quad.specs.LaneLaws.{lanes-between, lanes-join}
use Rattle.tile_wiener.specs.NewQuads.{sure-top}
use Rattle.tile_wiener.proofs.SureLaws.{sure-one, sure-join, shrunk-at}
use Rattle.tile_wiener.proofs.top.Goals as goal

-- two lanes one after the other, asked together
pub returns : goal.returns
returns g c =
    let n = g.row.SIDE in
    let bits = bits_of n in
    let v = c.args.v.now in
    let w = c.args.w.now in
    let u = c.args.u in
    let some = c.requires.u_some in
    let more = side_some c.requires.pair.sided in
    let even = side_even c.requires.pair.sided in
    let first = c.top_lane-q.ensures.1 in
    let second = lanes-between {o = place n u 0 + 1} {p = place n u 0 + 1 + 1} c.top_lane-p.ensures.1 (omega arith) (omega arith) in
    shrunk-at {n = place n u 0 + 1 + 1}
    (record {
      new = lanes-join (omega arith) (omega arith) first second;
      sure = λ e. let y = c.sure_lanes.ensures e in
          let x = c.sure_lanes-s.ensures y.0 in
          sure-join first (sure-one {u = u} {l = 0} (omega arith) refl (sure-top bits v w c.top_lane-q.ensures.0 u 0 some (lit< tt) x.1 y.1))
          (sure-one {u = u} {l = 1} (omega arith) (omega arith) (sure-top bits v w c.top_lane-p.ensures.0 u 1 some (lit< tt) x.2 y.2));
    }) (omega arith)
