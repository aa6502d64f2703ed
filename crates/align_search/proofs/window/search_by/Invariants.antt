-- The loop keeps the first least of the offsets tried so far and the rows that they took; the arrays are the table's.
use Rattle.align_search.specs.Prelude.{sum_n, residual_most}
use Rattle.sequences.specs.Sum.{Summed}
use Rattle.sequences.specs.LeastLaws.{Lowest}
use Rattle.align_search.specs.Rows.{offset_rows}
use Rattle.align_search.specs.Local.{window_row}
use Rattle.align_search.proofs.window.search_by.Given as goal

abbrev pub invariant-loop-k : goal.invariant-loop-k
invariant-loop-k g l =
    Lowest (λ k. sum_n g.T.Trial.side (window_row g.T.Trial.squared l.tile l.window g.T.Trial.side k)) residual_most 18446744073709551615 81 l.k l.best l.low
    × Summed (offset_rows (window_row g.T.Trial.squared l.tile l.window g.T.Trial.side) g.T.Trial.side) 32 81 l.k l.rows
