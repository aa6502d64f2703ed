-- Twice width times height is small.
use Rattle.admit_length.specs.Prelude.{refl, arith, work_length}
use Rattle.geometry.specs.ShapeLaws.{area-most}
use Rattle.admit_length.proofs.lengths.work_length as of

mul-result : of.Tie.Need-overflow_mul-result
mul-result c = omega (arith, area-most c.before.requires)

mul-result-2 : of.Tie.Need-overflow_mul-result-2
mul-result-2 c = omega (arith, area-most c.before.requires)

returns : of.Tie.Need-returns
unfolding work_length
returns c = (refl, omega (arith, area-most c.before.requires))

pub work_length_spec : {M : Type 1} → of.Statement.statement M
work_length_spec = of.Tie.close (of.Tie.spec mul-result mul-result-2 returns)
