-- Two sums over the samples, each square at most that of a level's values.
use Rattle.std.specs.Prelude.{◌+◌}
use Rattle.algebra.specs.Prelude.{true, get_or}
use Rattle.sequences.specs.Sum.{Summed}
use Rattle.align_residual.specs.Magnitudes.{square_most}
use Rattle.align_residual.specs.Residual.{difference}
use Rattle.align_residual.proofs.sixteen.squared_rows.Given as goal

abbrev pub invariant-loop-j : goal.invariant-loop-j
invariant-loop-j g l =
    Summed (λ k. difference true (get_or l.tile (l.a + k) 0) (get_or l.window (l.b + k) 0)) square_most g.row.SIDE l.j l.upper
    × Summed (λ k. difference true (get_or l.tile (l.a + g.row.SIDE + k) 0) (get_or l.window (l.b + g.row.SIDE + 8 + k) 0)) square_most g.row.SIDE l.j l.lower
