use Rattle.algebra.specs.Prelude.{refl, arith}
use Rattle.sequences.specs.TabLaws.{fill_start, fill-turn, fill_done}
use Rattle.c_words.specs.Words.{padded}
use Rattle.c_words.proofs.store.Goals as goal

pub loop-i-init : goal.loop-i-init
loop-i-init c = fill_start refl

pub loop-i-preserved : goal.loop-i-preserved
loop-i-preserved c = fill-turn c.loop-i.invariant (omega arith) c.byte_of.ensures

pub returns : goal.returns
unfolding padded
returns c = fill_done c.loop-i.invariant (omega arith)
