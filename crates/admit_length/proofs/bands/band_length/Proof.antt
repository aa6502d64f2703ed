-- Rows of the frame times its width are few.
use Rattle.algebra.specs.Prelude.{refl, arith}
use native.Mathlib.Nat.{mul-le-mul}
use Rattle.admit_length.specs.Bands.{band_length}
use Rattle.admit_length.proofs.bands.band_length as of

mul-result : of.Tie.Need-overflow_mul-result
mul-result c =
    let s = c.before in
    omega (arith, mul-le-mul {n₁ = s.args.rows} {m₁ = s.args.shape.width} {n₂ = 4096} {m₂ = 4096} (omega (arith, s.requires.1, s.requires.0.high.most)) s.requires.0.wide.most)

returns : of.Tie.Need-returns
unfolding band_length
returns c = refl

pub band_length_spec : {M : Type 1} → of.Statement.statement M
band_length_spec = of.Tie.close (of.Tie.spec mul-result returns)
