-- The end of the last value.
use Rattle.algebra.specs.Prelude.{arith, rules}
use Rattle.file_dng.specs.Tiff.FieldLaws.{bytes_most}
use Rattle.file_dng.specs.Tiff.Fields.{field_outside}
use Rattle.file_dng.proofs.tiff.fields.field_outside as of

mul-result : of.Tie.Need-overflow_mul-result
mul-result c = omega (arith, bytes_most c.field-found.result.size c.args.wanted.count 4 (omega arith) (omega arith))

add-result : of.Tie.Need-overflow_add-result
add-result c = omega (arith, bytes_most c.field-found.result.size c.args.wanted.count 4 (omega arith) (omega arith))

returns : of.Tie.Need-returns
unfolding field_outside
returns c = rw c.field-found.ensures.is

pub field_outside_spec : {M : Type 1} → of.Statement.statement M
field_outside_spec = of.Tie.close (of.Tie.spec (λ c κs. search rules) mul-result add-result returns)
