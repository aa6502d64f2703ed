-- `rounding::magnitude`: a number below zero is negated, and no number here is so low that its negation does not fit.
use Rattle.algebra.specs.Prelude.{ap, nat_abs, neg_ℤ, w64, to_z-of_z}
use Rattle.algebra.specs.Order.{abs_neg}
use Rattle.algebra.specs.Bound.{zero_minus, below-zero, from_zero, abs-fits}
use Rattle.rounding.proofs.Sign.{minus-fits}
use Rattle.rounding.proofs.magnitude as of

sub-result : of.Tie.Need-overflow_sub-result
sub-result c = rw (to_z-of_z c.before.ranges.z) (minus-fits c.before.args.z c.before.requires)

cast-result : of.Tie.Need-overflow_cast-result
cast-result c =
    let z = c.before.args.z in
    let k = to_z-of_z c.before.ranges.z in
    let h = minus-fits z c.before.requires in
    rw (k, to_z-of_z h, zero_minus) (below-zero z (rw k at c.if-z-lt0.true), abs-fits w64 w64 (neg_ℤ z) tt (rw zero_minus at h))

returns : of.Tie.Need-returns-then-z-lt0
returns c =
    let z = c.before.args.z in
    rw (to_z-of_z c.before.ranges.z, to_z-of_z (minus-fits z c.before.requires), zero_minus) (abs_neg z)

cast-result-2 : of.Tie.Need-overflow_cast-result-2
cast-result-2 c =
    let k = to_z-of_z c.before.ranges.z in
    rw k (from_zero c.before.args.z (rw k at c.if-z-lt0.false), abs-fits w64 w64 c.before.args.z tt c.before.ranges.z)

pub magnitude_spec : {M : Type 1} → of.Statement.statement M
magnitude_spec = of.Tie.close (of.Tie.spec
    sub-result cast-result returns cast-result-2 (λ c. ap nat_abs (to_z-of_z c.before.ranges.z)))
