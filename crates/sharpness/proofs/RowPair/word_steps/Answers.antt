-- Three samples, and the two steps from the first, by definition.
use Rattle.std.specs.Prelude.{◌+◌}
use Rattle.algebra.specs.Prelude.{ap₂, ◌∙◌, arith}
use Rattle.sharpness.specs.Sharpness.{step}
use Rattle.sharpness.specs.Words.{word_steps}
use Rattle.sharpness.proofs.RowPair.word_steps.Goals as goal

pub returns : goal.returns
unfolding word_steps
returns c = (
  ap₂ ◌+◌ (c.step.ensures ∙ ap₂ step c.sample-here.ensures.0 c.sample-right.ensures.0) (c.step-2.ensures ∙ ap₂ step c.sample-here.ensures.0 c.sample-below.ensures.0),
  omega arith,
)
