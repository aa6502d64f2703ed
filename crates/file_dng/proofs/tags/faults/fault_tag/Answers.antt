-- By the refusal.
use Rattle.std.proofs.Common.{◌≡◌, ne_eqb}
use Rattle.algebra.specs.Prelude.{eqb, false}
use Rattle.refusals.specs.Refused.{refusal_number}
use Rattle.refusals.specs.RefusedLaws.{same_refusal}
use Rattle.refusals.specs.declared.Refusal.{Refusal}
use Rattle.refusals.specs.declared.Refusal.TheVariants.{DngStructure, DngTag, DngValue}
use Rattle.file_dng.specs.Tags.Faults.{count_fault, fault_tag}
use Rattle.file_dng.proofs.tags.faults.fault_tag.Goals as goal

pub returns-in-DngStructure : goal.returns-in-DngStructure
unfolding fault_tag
returns-in-DngStructure c = rw c.in-DngStructure.is c.structure_fault.ensures

pub returns-in-DngTag : goal.returns-in-DngTag
unfolding fault_tag count_fault
returns-in-DngTag c = rw c.in-DngTag.is (rw c.listed.ensures at c.first_hit.ensures)

pub returns-in-DngValue : goal.returns-in-DngValue
unfolding fault_tag
returns-in-DngValue c = rw c.in-DngValue.is c.value_fault.ensures

-- another refusal has another number
other : (a b : Refusal) → (a ≡ b → ⊥) → eqb (refusal_number a) (refusal_number b) ≡ false
other a b h = ne_eqb (refusal_number a) (refusal_number b) (λ e. h (same_refusal a b e))

pub returns-in_default : goal.returns-in_default
unfolding fault_tag
returns-in_default c =
    rw (
      other c.args.refusal DngStructure c.in_default.not-DngStructure,
      other c.args.refusal DngTag c.in_default.not-DngTag,
      other c.args.refusal DngValue c.in_default.not-DngValue,
    )
