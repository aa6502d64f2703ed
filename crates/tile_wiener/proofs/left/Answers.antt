use Rattle.tile_wiener.specs.Prelude.{arith, rules, bits_of}
use Rattle.tile_quad.specs.AtSideLaws.{side_even, side_some, even-pair}
use Rattle.tile_wiener.specs.NewQuads.{new-left, sure-left}
use Rattle.tile_wiener.proofs.SureLaws.{shrunk-start, shrunk-at, shrunk-turn}
use Rattle.tile_wiener.proofs.left.Goals as goal

pub loop-l-init : goal.loop-l-init
loop-l-init g c = shrunk-start _ c.requires.1

pub set_quad-requires : goal.set_quad-requires
set_quad-requires g c =
    let some = side_some c.requires.0.sided in
    (search rules, (search rules, record { pair = even-pair c.requires.0; u_below = omega arith; l_below = omega arith; paired = c.loop-l.invariant.new.paired }))

-- two bins a turn, as they are
pub loop-l-preserved : goal.loop-l-preserved
loop-l-preserved g c =
    let bits = bits_of g.row.SIDE in
    let v = c.args.v.now in
    let w = c.args.w.now in
    let l = c.loop-l.l in
    let q = c.quad_at-q.ensures in
    let some = side_some c.requires.0.sided in
    let even = side_even c.requires.0.sided in
    shrunk-at
    (shrunk-turn c.loop-l.invariant (omega arith) (omega arith) (omega arith) c.set_quad.ensures (new-left bits v w q l (omega arith) c.gains-g.ensures c.gains-h.ensures)
    (λ e. let y = c.sure-s.ensures e in let x = c.sure.ensures y.0 in (x.0, sure-left bits v w q l (omega arith) x.1 y.1)))
    (omega arith)

pub returns : goal.returns
returns g c = let some = side_some c.requires.0.sided in shrunk-at c.loop-l.invariant (omega arith)
