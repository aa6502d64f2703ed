use Rattle.algebra.specs.Prelude.{rules}
use Rattle.sequences.specs.Write.{write-start, write-turn, write_done}
use Rattle.merge_tiles.proofs.rows.store_block.Goals as goal

pub loop-j-init : goal.loop-j-init
loop-j-init c = write-start c.requires

pub loop-j-preserved : goal.loop-j-preserved
loop-j-preserved c = write-turn c.loop-j.invariant c.loop-j-test.true (search rules)

pub returns : goal.returns
returns c = write_done c.loop-j.invariant c.loop-j-test.false
