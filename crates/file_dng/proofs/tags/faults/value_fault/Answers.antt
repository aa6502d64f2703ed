-- Each part is its definition, so the first of them is.
use Rattle.std.proofs.Common.{ap₂, ◌∙◌}
use Rattle.file_dng.specs.Tags.Prelude.{refuse}
use Rattle.file_dng.specs.Tags.Faults.{value_fault}
use Rattle.file_dng.proofs.tags.faults.value_fault.Goals as goal

pub returns : goal.returns
unfolding value_fault
returns c =
    c.first.ensures
    ∙ rw (
      rw c.listed.ensures at c.first_hit-absent.ensures,
      c.refuse-strip.ensures ∙ ap₂ refuse c.tag_at.ensures c.size_differs.ensures,
      rw c.demanded.ensures at c.first_hit-missed.ensures,
    )
