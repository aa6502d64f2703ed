-- A row of a pair: filled from the front by two samples at a time, each by where the row starts.
use Rattle.std.specs.Prelude.{◌+◌, ◌*◌, ◌/◌, ◌%◌, ◌+ℤ◌}
use Rattle.merge_view.specs.Prelude.{pos, get_or, inside}
use Rattle.sequences.specs.TabLaws.{Filled}
use Rattle.merge_view.proofs.edge_pair.Given as goal

abbrev pub invariant-loop-j : goal.invariant-loop-j
invariant-loop-j g l = Filled (λ k. get_or l.fn.samples (l.fn.start + 2 * inside l.fn.width (l.fn.x +ℤ pos (k / 2)) + k % 2) 0) g.row.LANES (2 * l.j) l.initial.row l.row
