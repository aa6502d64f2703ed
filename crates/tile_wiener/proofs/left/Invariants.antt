use Rattle.tile_wiener.specs.Prelude.{place}
use Rattle.tile_wiener.specs.DoubleQuads.{Shrunk}
use Rattle.tile_wiener.proofs.left.Given as goal

-- the quads passed are those of G, where they are certain
abbrev pub invariant-loop-l : goal.invariant-loop-l
invariant-loop-l g l = Shrunk g.row.SIDE l.s l.v l.w (place g.row.SIDE 0 2) (place g.row.SIDE 0 l.l) l.fn.b l.b
