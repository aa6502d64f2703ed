-- Each return is what the tests that led there make of the definition.
use Rattle.std.proofs.Common.{sym, ap₂, ◌∙◌}
use Rattle.file_dng.specs.Tags.Prelude.{[], first, refuse, ◌∷◌}
use Rattle.file_dng.specs.Tags.Faults.{structure_fault}
use Rattle.file_dng.proofs.tags.faults.structure_fault.Goals as goal

pub returns-then-header_wrong : goal.returns-then-header_wrong
unfolding structure_fault
returns-then-header_wrong c = rw (sym c.header_wrong.ensures ∙ c.if-header_wrong.true)

pub returns-then-directory_outside : goal.returns-then-directory_outside
unfolding structure_fault
returns-then-directory_outside c =
    rw (sym c.header_wrong.ensures ∙ c.if-header_wrong.false, sym c.directory_outside.ensures ∙ c.if-directory_outside.true)

pub returns : goal.returns
unfolding structure_fault first
returns c =
    rw (sym c.header_wrong.ensures ∙ c.if-header_wrong.false, sym c.directory_outside.ensures ∙ c.if-directory_outside.false)
    (c.first.ensures
    ∙ ap₂ (λ a b. first (a ∷ b ∷ [])) (rw c.listed.ensures at c.first_hit-value.ensures) (c.refuse-strip.ensures ∙ ap₂ refuse c.tag_at.ensures c.strip_outside.ensures))
