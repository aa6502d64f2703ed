-- A row a turn.
use Rattle.std.specs.Prelude.{◌+◌}
use Rattle.merge_tiles.specs.Prelude.{pos, cell}
use Rattle.merge_tiles.specs.Rows.{Spread}
use Rattle.merge_tiles.proofs.rows.store_half.Given as goal

abbrev pub invariant-loop-i : goal.invariant-loop-i
invariant-loop-i g l = Spread (Unit {0}) (λ i j. cell (pos 0) l.fn.tile i (l.fn.from + j)) l.fn.at g.row.SIDE g.row.SIDE l.i l.initial.work l.work
