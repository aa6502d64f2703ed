-- The samples of a burst whose lengths are let through.
use Rattle.std.proofs.Common.{sym}
use Rattle.admit_range.specs.RefusalLaws.{range-fits}
use Rattle.admit_range.proofs.range_refusal.Goals as goal

pub content_refusal-requires : goal.content_refusal-requires
content_refusal-requires c =
    let burst = (range-fits _ _ _ _ _ _ _ (sym c.in_ok-lengths_refusal.ensures)).burst in
    record { allowed = burst.allowed; long = burst.samples_long }
