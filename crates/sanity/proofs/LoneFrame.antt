-- A burst of one frame, without the spatial filter, comes back unchanged: the whole frame, which is the exact merge too (sample for sample: specs/LoneFrame).
use Rattle.std.specs.Prelude.{◌≡◌, ◌-◌, ◌≤◌}
use Rattle.sanity.specs.Prelude.{sym, ◌∙◌, List, ℕ, arith, ℤ, Merge, Scene, scene_of, scene_at, output_at, merged}
use Rattle.algebra.specs.Fraction.{whole, Within}
use Rattle.recipe.specs.ExactMerge.{plane_exact, exact_at}
use Rattle.sanity.specs.Frames.{frame_words, Burst}
use Rattle.sanity.specs.FrameLaws.{frame-words}
use Rattle.sanity.specs.MergeLaws.{plane-place, merged-is}
use Rattle.sanity.specs.LoneFrame.{sample-back, exact-lone}

-- the whole frame
pub burst-back : (m : Merge) (samples : List ℕ) (vectors : List ℤ) → Burst m.shape m.reference samples → m.tuning.spatial ≡ 0 → m.shape.count ≡ 1 →
    merged (scene_of m samples vectors) ≡ frame_words m.shape samples m.reference
unfolding scene_at
burst-back m samples vectors burst plain lone =
    merged-is (scene_of m samples vectors) (λ row column h k. sample-back (scene_of m samples vectors) plain (omega arith) row column (burst.fit.most m.reference row column burst.below h k))
    ∙ sym (frame-words m.shape samples m.reference)

-- so the merged sample is the exact one
pub lone-near : (s : Scene) → s.tuning.spatial ≡ 0 → s.others ≡ 0 → (row column : ℕ) → s.reference row column ≤ 4095 → Within 0 1 (whole (output_at s row column)) (exact_at s row column)
unfolding exact_at plane_exact
lone-near s plain lone row column most =
    let place = plane-place s row column in
    rw (sample-back s plain lone row column most, lone, place) (exact-lone s.side _ _ (s.reference row column) _ _ most)
