-- What the tests of the lengths let through.
use Rattle.std.proofs.Common.{sym}
use Rattle.admit_length.specs.ResidualLaws.{residual-fits}
use Rattle.admit_call.proofs.residual_refusal.Goals as goal

pub sample_refusal-requires : goal.sample_refusal-requires
sample_refusal-requires c =
    let burst = (residual-fits _ _ _ _ _ _ (sym c.in_ok-residual_shape_refusal.ensures)).burst in
    record { allowed = burst.allowed; long = burst.samples_long }
