use Rattle.sequences.specs.Write.{write-start, write-turn, write_done}
use Rattle.file_dng.specs.Strip.StripLaws.{sample-bytes}
use Rattle.file_dng.proofs.strip.fill_row.Goals as goal

pub loop-i-init : goal.loop-i-init
loop-i-init c = write-start c.requires.width_in_bounds_2

pub loop-i-preserved : goal.loop-i-preserved
loop-i-preserved c = write-turn c.loop-i.invariant c.loop-i-test.true (sample-bytes _ _ _)

pub returns : goal.returns
returns c = write_done c.loop-i.invariant c.loop-i-test.false
