use Rattle.tile_wiener_exact.specs.Prelude.{arith, bits_of}
use Rattle.tile_wiener_exact.specs.ExactQuadLaws.{exact-corner, exact-others}
use Rattle.tile_wiener_exact.proofs.quad.Goals as goal

pub returns-then-k-u-eq0 : goal.returns-then-k-u-eq0
returns-then-k-u-eq0 g c =
    exact-corner (bits_of g.row.SIDE) c.args.noise c.args.k c.args.u c.args.q c.bins-b.ensures (omega arith) c.real_gain.ensures c.real_gain-then-k-u-eq0.ensures c.real_gain-then-k-u-eq0-2.ensures c.real_gain-then-k-u-eq0-3.ensures

pub returns : goal.returns
returns g c =
    exact-others (bits_of g.row.SIDE) c.args.noise c.args.k c.args.u c.args.q c.bins-b.ensures (omega arith) c.gains-g.ensures c.gains-h.ensures c.folded.ensures
