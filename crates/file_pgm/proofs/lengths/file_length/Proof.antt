-- The header, and two bytes for each of at most 4096 · 4096 samples.
use Rattle.algebra.specs.Prelude.{arith, rules}
use Rattle.file_pgm.specs.Form.{file_length}
use Rattle.file_pgm.specs.FormLaws.{area-most}
use Rattle.file_pgm.proofs.lengths.file_length as of

mul-result : of.Tie.Need-overflow_mul-result
mul-result c = omega (arith, area-most c.requires)

mul-result-2 : of.Tie.Need-overflow_mul-result-2
mul-result-2 c = omega (arith, area-most c.requires)

add-result : of.Tie.Need-overflow_add-result
add-result c = omega (arith, area-most c.requires)

returns : of.Tie.Need-returns
unfolding file_length
returns c = (omega arith, omega (arith, area-most c.requires))

pub file_length_spec : {M : Type 1} → of.Statement.statement M
file_length_spec = of.Tie.close (of.Tie.spec
    (λ c κs. search rules) mul-result mul-result-2 add-result returns)
