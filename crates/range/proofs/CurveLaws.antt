-- The frame merged with a curve between two that are accepted lies between low and high.
use Rattle.std.specs.Prelude.{◌≡◌, ◌*◌, ◌≤◌, ◌<◌}
use Rattle.range.specs.Prelude.{List, ℕ, get_or, ℤ, first, Scene}
use Rattle.geometry.specs.declared.Shape.{Shape}
use Rattle.recipe.specs.declared.Tuning.{Tuning}
use Rattle.recipe.specs.Merged.{merged}
use Rattle.noise.specs.declared.Curve.{Curve}
use Rattle.noise.specs.declared.Noise.{Noise}
use Rattle.noise.specs.declared.Noise.TheVariants.{Measured}
use Rattle.noise.specs.Curve.{curve_of}
use Rattle.noise.specs.Levels.{noise_tests, levels_of, shot_level, read_level}
use Rattle.range.specs.Crossed.{NoneAbove}
use Rattle.range.specs.Frames.{low_frame, high_frame}
use Rattle.range.specs.FrameLaws.{levelled}
use Rattle.range.specs.CurveLaws.{levels-rise, curve-accepted}
use Rattle.range.proofs.FrameLaws.{frame-inside}

module _ (lower upper : Noise) (c : Curve) (e : first (noise_tests lower) ≡ 0) (e' : first (noise_tests upper) ≡ 0) (h : NoneAbove (curve_of lower) c) (k : NoneAbove c (curve_of upper)) where
  -- "For every curve between the two ends, the frame merged with it lies between low and high at each sample", "without the spatial filter"
  pub curve-inside : (s : Shape) (reference : ℕ) (tuning : Tuning) (samples : List ℕ) (vectors : List ℤ) → tuning.spatial ≡ 0 → (i : ℕ) → i < s.width * s.height →
      let at : Noise → Scene = λ noise. levelled s reference tuning samples vectors (shot_level (levels_of noise)) (read_level (levels_of noise)) in
      let low = get_or (low_frame (at lower) (at upper)) i 0 in
      let high = get_or (high_frame (at lower) (at upper)) i 0 in
      let between = get_or (merged (at (Measured c))) i 0 in
      (low ≤ between) × (between ≤ high)
  curve-inside s reference tuning samples vectors =
      let accepted = curve-accepted lower upper c e e' h k in
      let l = levels-rise lower (Measured c) e accepted h in
      let u = levels-rise (Measured c) upper accepted e' k in
      frame-inside s reference tuning samples vectors l.0 u.0 l.1 u.1
