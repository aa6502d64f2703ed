-- Frames times row length times height is small.
use Rattle.admit_length.specs.Prelude.{refl, arith, sample_length}
use Rattle.geometry.specs.ShapeLaws.{frame-most, samples-most}
use Rattle.admit_length.proofs.lengths.sample_length as of

mul-result : of.Tie.Need-overflow_mul-result
mul-result c = omega (arith, frame-most c.before.requires)

mul-result-2 : of.Tie.Need-overflow_mul-result-2
mul-result-2 c = omega (arith, samples-most c.before.before.requires)

returns : of.Tie.Need-returns
unfolding sample_length
returns c = (refl, samples-most c.before.before.requires)

pub sample_length_spec : {M : Type 1} → of.Statement.statement M
sample_length_spec = of.Tie.close (of.Tie.spec mul-result mul-result-2 returns)
