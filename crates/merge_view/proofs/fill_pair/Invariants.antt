-- A pair: filled row by row from the front.
use Rattle.std.specs.Prelude.{◌+ℤ◌}
use Rattle.merge_view.specs.Prelude.{pos}
use Rattle.merge_view.specs.View.{pair_row}
use Rattle.sequences.specs.TabLaws.{Filled}
use Rattle.merge_view.proofs.fill_pair.Given as goal

abbrev pub invariant-loop-i : goal.invariant-loop-i
invariant-loop-i g l =
    let v = l.fn.view in
    Filled (λ k. pair_row g.row.SIDE (l.fn.y +ℤ pos k) l.fn.x v.samples.now v.width v.height v.parity) g.row.SIDE l.i l.initial.tile l.tile
