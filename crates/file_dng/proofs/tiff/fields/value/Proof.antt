-- The number at the place of the value.
use Rattle.algebra.specs.Prelude.{◌∙◌, arith, rules}
use Rattle.file_dng.specs.Tiff.FieldLaws.{bytes_most}
use Rattle.file_dng.specs.Tiff.Fields.{value_at}
use Rattle.file_dng.proofs.tiff.fields.value as of

mul-number-at : of.Tie.Need-overflow_mul-found
mul-number-at c = omega (arith, bytes_most c.field-found.result.size c.args.index 4 (omega arith) (omega arith))

add-number-at : of.Tie.Need-overflow_add-found
add-number-at c = omega (arith, bytes_most c.field-found.result.size c.args.index 4 (omega arith) (omega arith))

number-at-requires : of.Tie.Need-number_at-requires
number-at-requires c κs = omega (arith, bytes_most c.field-found.result.size c.args.index 4 (omega arith) (omega arith))

returns : of.Tie.Need-returns
unfolding value_at
returns c = (c.number_at.ensures.0 ∙ rw c.field-found.ensures.is, omega arith)

pub value_spec : {M : Type 1} → of.Statement.statement M
value_spec = of.Tie.close (of.Tie.spec
    (λ c κs. search rules) mul-number-at add-number-at number-at-requires returns)
