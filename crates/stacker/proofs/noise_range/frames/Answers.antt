-- Equal levels have one scene, so that the merge is both frames.
use Rattle.std.proofs.Common.{sym, ◌∙◌}
use Rattle.stacker.specs.RangedLaws.{low_merged, high-merged}
use Rattle.stacker.proofs.noise_range.frames.Goals as goal

pub returns-then-same_levels : goal.returns-then-same_levels
returns-then-same_levels c =
    let same = c.same_levels.ensures c.if-same_levels.true in
    let is = c.merge_frames.ensures in
    record { low_is = is ∙ sym (low_merged _ _ _ _ c.requires.off same); high_is = c.copy.ensures ∙ is ∙ sym (high-merged _ _ _ _ c.requires.off same) }
