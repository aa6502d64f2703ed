use Rattle.tile_wiener_exact.specs.Prelude.{bits_of, place, Lanes}
use Rattle.tile_wiener_exact.specs.ExactQuads.{new_exactly_by}
use Rattle.tile_wiener_exact.proofs.filter_exactly.Given as goal

-- the quads of the rows passed are those of G
abbrev pub invariant-loop-u : goal.invariant-loop-u
invariant-loop-u g l = Lanes g.row.SIDE (new_exactly_by (bits_of g.row.SIDE) l.first l.second) 0 (place g.row.SIDE l.u 0) l.fn.b l.b
