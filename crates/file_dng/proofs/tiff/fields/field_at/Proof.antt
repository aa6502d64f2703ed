-- Values of four bytes or less stand in the entry.
use Rattle.algebra.specs.Prelude.{arith, rules}
use Rattle.file_dng.specs.Tiff.FieldLaws.{bytes_most, field-inline, field-offset}
use Rattle.file_dng.proofs.tiff.fields.field_at as of

mul-if1 : of.Tie.Need-overflow_mul-size
mul-if1 c = omega (arith, bytes_most c.size_of-size.result c.args.entry.count 4294967296 (omega arith) (omega arith))

returns : of.Tie.Need-returns-then-size-entry-le4
returns c = field-inline _ _ c.size_of-size.ensures.0 (omega arith) (omega arith) (omega arith)

returns-2 : of.Tie.Need-returns
returns-2 c = field-offset _ _ c.size_of-size.ensures.0 (omega arith) (omega arith) c.long_at-at.ensures.0 (omega arith)

pub field_at_spec : {M : Type 1} → of.Statement.statement M
field_at_spec = of.Tie.close (of.Tie.spec
    (λ c κs. search rules) mul-if1 returns (λ c κs. search rules) returns-2)
