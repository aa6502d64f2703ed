-- Cloning a number gives that number.
use Rattle.algebra.specs.Prelude.{rules}
use Rattle.sequences.specs.Clear.{zeros}
use Rattle.pipeline.proofs.clear.Goals as goal

pub returns : goal.returns
unfolding zeros
returns c = c.fill.ensures.after (λ y e. search rules)
