use Rattle.tile_wiener.specs.Prelude.{arith, rules, of_bits, of_int, bits_of}
use Rattle.tile_quad.specs.AtSideLaws.{side_even, side_some, even-pair}
use Rattle.tile_wiener.specs.NewQuads.{new-corner, sure-corner}
use Rattle.tile_wiener.proofs.SureLaws.{shrunk-start, shrunk-at, shrunk-turn}
use Rattle.tile_wiener.proofs.corner.Goals as goal

pub loop-l-init : goal.loop-l-init
loop-l-init g c = shrunk-start _ c.requires.1

pub set_quad-requires : goal.set_quad-requires
set_quad-requires g c =
    let some = side_some c.requires.0.sided in
    (search rules, (search rules, record { pair = even-pair c.requires.0; u_below = omega arith; l_below = omega arith; paired = c.loop-l.invariant.new.paired }))

-- four real bins a turn
pub loop-l-preserved : goal.loop-l-preserved
unfolding of_bits of_int
loop-l-preserved g c =
    let bits = bits_of g.row.SIDE in
    let v = c.args.v.now in
    let w = c.args.w.now in
    let l = c.loop-l.l in
    let q = c.quad_at-q.ensures in
    let some = side_some c.requires.0.sided in
    let even = side_even c.requires.0.sided in
    shrunk-at
    (shrunk-turn c.loop-l.invariant (omega arith) (omega arith) (omega arith) c.set_quad.ensures (new-corner bits v w q l (omega arith) c.real_gain.ensures c.real_gain-in-loop-l.ensures c.real_gain-in-loop-l-2.ensures c.real_gain-in-loop-l-3.ensures)
    (λ i. let t = c.sure-s-in-loop-l.ensures i in let z = c.sure-in-loop-l.ensures t.0 in let y = c.sure-s.ensures z.0 in let x = c.sure.ensures y.0 in (x.0, sure-corner bits v w q l (omega arith) x.1 y.1 z.1 t.1)))
    (omega arith)

pub returns : goal.returns
returns g c = shrunk-at c.loop-l.invariant (omega arith)
