-- Width times height is small.
use Rattle.admit_length.specs.Prelude.{refl, arith, output_length}
use Rattle.geometry.specs.ShapeLaws.{area-most}
use Rattle.admit_length.proofs.lengths.output_length as of

mul-result : of.Tie.Need-overflow_mul-result
mul-result c = omega (arith, area-most c.before.requires)

returns : of.Tie.Need-returns
unfolding output_length
returns c = (refl, area-most c.before.requires)

pub output_length_spec : {M : Type 1} → of.Statement.statement M
output_length_spec = of.Tie.close (of.Tie.spec mul-result returns)
