use Rattle.std.specs.Prelude.{◌+◌}
use Rattle.tile_root.specs.Prelude.{ap₂, arith}
use Rattle.sequences.specs.TabLaws.{fill_start, fill-turn, fill-rest, fill_done}
use Rattle.tile_root.proofs.squares.add_squares.Goals as goal

pub loop-l-init : goal.loop-l-init
loop-l-init g c = fill_start c.requires.1.long

pub overflow_add-sum : goal.overflow_add-sum
overflow_add-sum g c = omega (arith, fill-rest c.loop-l.invariant (omega arith) 0, c.requires.1.most c.loop-l.l, c.square_at.ensures.1)

pub loop-l-preserved : goal.loop-l-preserved
loop-l-preserved g c = fill-turn c.loop-l.invariant (omega arith) (ap₂ (λ a b. a + b) (fill-rest c.loop-l.invariant (omega arith) 0) c.square_at.ensures.0)

pub returns : goal.returns
returns g c = fill_done c.loop-l.invariant (omega arith)
