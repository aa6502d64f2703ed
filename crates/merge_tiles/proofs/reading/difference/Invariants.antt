-- A tile of differences: filled row by row from the front.
use Rattle.std.specs.Prelude.{◌-ℤ◌}
use Rattle.merge_tiles.specs.Prelude.{pos, tab, cell}
use Rattle.sequences.specs.TabLaws.{Filled}
use Rattle.merge_tiles.proofs.reading.difference.Given as goal

abbrev pub invariant-loop-i : goal.invariant-loop-i
invariant-loop-i g l = Filled (λ i. tab g.row.LANES (λ j. pos (cell 0 l.fn.t0 i j) -ℤ pos (cell 0 l.fn.tz i j))) g.row.SIDE l.i l.initial.d l.d
