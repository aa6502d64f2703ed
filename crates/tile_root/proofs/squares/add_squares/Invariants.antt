use Rattle.std.specs.Prelude.{◌+◌}
use Rattle.tile_root.specs.Prelude.{get_or, squared}
use Rattle.sequences.specs.TabLaws.{Filled}
use Rattle.tile_root.proofs.squares.add_squares.Given as goal

-- the sums passed have their square added
abbrev pub invariant-loop-l : goal.invariant-loop-l
invariant-loop-l g l = Filled (λ i. get_or l.fn.sum i 0 + squared (get_or l.black i 0) (get_or l.row i 0)) g.row.LANES l.l l.fn.sum l.sum
