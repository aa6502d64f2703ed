use Rattle.std.specs.Prelude.{◌+◌, ◌*◌}
use Rattle.tile_root.specs.Prelude.{get_or}
use Rattle.sequences.specs.Sum.{Summed}
use Rattle.tile_root.proofs.squares.plane_squares.Given as goal

-- the sum so far is that of the places passed
abbrev pub invariant-loop-j : goal.invariant-loop-j
invariant-loop-j g l = Summed (λ j. get_or l.sum (2 * j + l.p) 0) (g.row.SIDE * 16769025) g.row.SIDE l.j l.s
