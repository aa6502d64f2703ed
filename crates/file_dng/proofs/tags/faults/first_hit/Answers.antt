-- The first row that does not answer 0 is the answer, and else the end.
use Rattle.std.proofs.Common.{sym, ap₂, ◌∙◌}
use Rattle.file_dng.specs.Tags.Prelude.{refuse, entries}
use Rattle.file_dng.specs.Tags.RowTests.{row_hit, row_tag}
use Rattle.file_dng.specs.Tags.FaultLaws.{zeros-start, zeros-turn, zeros-done, zeros-found}
use Rattle.file_dng.proofs.tags.faults.first_hit.Goals as goal

pub loop-row-init : goal.loop-row-init
loop-row-init c = zeros-start

pub returns-then-found-ne0 : goal.returns-then-found-ne0
returns-then-found-ne0 c =
    let file = c.args.file.now in
    let is = c.refuse-found.ensures ∙ ap₂ refuse c.row_tag.ensures c.hit.ensures in
    is
    ∙ sym (zeros-found (λ row. refuse (row_tag c.args.test row) (row_hit c.args.test file (entries file) row)) _ c.loop-row-test.true c.loop-row.invariant.past (λ z. c.if-found-ne0.true (is ∙ z)))

pub loop-row-preserved : goal.loop-row-preserved
loop-row-preserved c = zeros-turn c.loop-row.invariant c.loop-row-test.true (sym (c.refuse-found.ensures ∙ ap₂ refuse c.row_tag.ensures c.hit.ensures) ∙ c.if-found-ne0.false)

pub returns : goal.returns
returns c = sym (zeros-done c.loop-row.invariant c.loop-row-test.false)
