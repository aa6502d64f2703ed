-- A side of 16 or 32 times the width is small.
use Rattle.std.specs.Prelude.{◌*◌}
use Rattle.algebra.specs.Prelude.{refl, arith}
use native.Mathlib.Nat.{mul-le-mul}
use Rattle.admit_length.specs.Bands.{band_work_length}
use Rattle.admit_length.specs.BandLaws.{side-most}
use Rattle.admit_length.proofs.bands.band_work_length as of

mul-result : of.Tie.Need-overflow_mul-result
mul-result c = omega (arith, side-most c.before.requires.1)

mul-result-2 : of.Tie.Need-overflow_mul-result-2
mul-result-2 c =
    let s = c.before.before in
    omega (arith, mul-le-mul {n₁ = 4 * s.args.shape.side} {m₁ = s.args.shape.width} {n₂ = 128} {m₂ = 4096} (omega (arith, side-most s.requires.1)) s.requires.0.wide.most)

returns : of.Tie.Need-returns
unfolding band_work_length
returns c = refl

pub band_work_length_spec : {M : Type 1} → of.Statement.statement M
band_work_length_spec = of.Tie.close (of.Tie.spec mul-result mul-result-2 returns)
