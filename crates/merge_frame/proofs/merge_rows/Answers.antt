-- The two row parities, one after the other.
use Rattle.merge_frame.specs.Prelude.{scene_at, scene_of}
use Rattle.merge_frame.proofs.Advance.{all-merged}
use Rattle.merge_frame.proofs.merge_rows.Goals as goal

pub returns : goal.returns
unfolding scene_at
returns c =
    let a = c.args in
    all-merged c.requires.accepted.burst.sided (scene_of a.m a.samples.now a.vectors.now) a.first a.last c.requires.output_long c.merge_parity.ensures c.merge_parity-2.ensures
