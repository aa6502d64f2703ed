use Rattle.tile_wiener.specs.Prelude.{true, place}
use Rattle.tile_wiener.specs.DoubleQuads.{Shrunk}
use Rattle.tile_wiener.proofs.filter.Given as goal

-- the quads of the rows passed are those of G, without a doubt
abbrev pub invariant-loop-u : goal.invariant-loop-u
invariant-loop-u g l = Shrunk g.row.SIDE true l.v l.w (place g.row.SIDE 1 0) (place g.row.SIDE l.u 0) l.initial.b l.b
