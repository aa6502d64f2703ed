-- What the tests of the lengths let through.
use Rattle.std.proofs.Common.{sym}
use Rattle.admit_length.specs.OneFrameLaws.{align-frame-fits}
use Rattle.admit_call.proofs.one_frame.align_frame_refusal.Goals as goal

pub sample_refusal-requires : goal.sample_refusal-requires
sample_refusal-requires c =
    let burst = align-frame-fits _ _ _ _ _ _ (sym c.in_ok-align_frame_shape_refusal.ensures) in
    record { allowed = burst.allowed; long = burst.samples_long }
