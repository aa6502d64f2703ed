-- A hit is the answer, and so is the end.
use Rattle.std.proofs.Common.{sym, ◌∙◌}
use Rattle.refusals.specs.SomeLaws.{pass-start, pass-turn, pass-done, one}
use Rattle.file_dng.proofs.tags.tests.some_hit.Goals as goal

pub loop-row-init : goal.loop-row-init
loop-row-init c = pass-start

pub returns-then-hit : goal.returns-then-hit
returns-then-hit c = sym (one _ _ c.loop-row.row c.loop-row-test.true (sym c.hit.ensures ∙ c.if-hit.true))

pub loop-row-preserved : goal.loop-row-preserved
loop-row-preserved c = pass-turn c.loop-row.invariant c.loop-row-test.true (sym c.hit.ensures ∙ c.if-hit.false)

pub returns : goal.returns
returns c = sym (pass-done c.loop-row.invariant c.loop-row-test.false)
