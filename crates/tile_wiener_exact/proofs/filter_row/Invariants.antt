use Rattle.tile_wiener_exact.specs.Prelude.{bits_of, place, Lanes}
use Rattle.tile_wiener_exact.specs.ExactQuads.{new_exactly_by}
use Rattle.tile_wiener_exact.proofs.filter_row.Given as goal

-- the quads passed are those of G
abbrev pub invariant-loop-l : goal.invariant-loop-l
invariant-loop-l g l = Lanes g.row.SIDE (new_exactly_by (bits_of g.row.SIDE) l.first l.second) (place g.row.SIDE l.u 0) (place g.row.SIDE l.u l.l) l.fn.b l.b
