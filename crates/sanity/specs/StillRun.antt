-- Try a burst of one picture taken several times, aligned and then merged: the reference comes back, whatever the noise and the strength are.
use Rattle.std.specs.Prelude.{◌≡◌}
use Rattle.sanity.specs.Prelude.{ap, ◌∙◌, List, ℕ, vector_length, aligned_vectors, Merge, scene_of, merged}
use Rattle.sanity.specs.Frames.{frame_words, Burst, Alike}
use Rattle.sanity.specs.StillMerge.{burst-back}
use Rattle.sanity.specs.StillAlign.{vectors-none}

pub run-back : (m : Merge) (samples : List ℕ) → Burst m.shape m.reference samples → Alike m.shape m.reference samples → m.tuning.spatial ≡ 0 →
    merged (scene_of m samples (aligned_vectors m.shape m.reference samples)) ≡ frame_words m.shape samples m.reference
run-back m samples burst alike plain =
    ap (λ v. merged (scene_of m samples v)) (vectors-none m.shape m.reference samples burst alike)
    ∙ burst-back m samples burst alike plain (vector_length m.shape)
