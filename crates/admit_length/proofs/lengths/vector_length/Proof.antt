-- The parts of the other frames are few.
use Rattle.std.specs.Prelude.{◌-◌, ◌*◌}
use Rattle.admit_length.specs.Prelude.{ap, arith, rules, vector_length}
use native.Mathlib.Nat.{mul-le-mul}
use Rattle.admit_length.proofs.lengths.vector_length as of

mul-result : of.Tie.Need-overflow_mul-result
mul-result c = omega (arith, mul-le-mul {n₁ = c.before.before.args.shape.count - 1} {n₂ = 7} (omega arith) c.frame_parts.ensures.1)

returns : of.Tie.Need-returns
unfolding vector_length
returns c =
    let n = c.before.before.args.shape.count - 1 in
    let parts = c.frame_parts.ensures in
    (ap (λ p. n * p) parts.0, omega (arith, mul-le-mul {n₁ = n} {n₂ = 7} (omega arith) parts.1))

pub vector_length_spec : {M : Type 1} → of.Statement.statement M
vector_length_spec = of.Tie.close (of.Tie.spec (λ c. search rules) (λ c κs. search rules) mul-result returns)
