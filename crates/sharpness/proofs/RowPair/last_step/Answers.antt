-- Two samples and the step between, by definition.
use Rattle.algebra.specs.Prelude.{ap₂, ◌∙◌}
use Rattle.sharpness.specs.Sharpness.{step}
use Rattle.sharpness.specs.Words.{last_step}
use Rattle.sharpness.proofs.RowPair.last_step.Goals as goal

pub returns : goal.returns
unfolding last_step
returns c = c.step.ensures ∙ ap₂ step c.sample-here.ensures.0 c.sample-below.ensures.0
