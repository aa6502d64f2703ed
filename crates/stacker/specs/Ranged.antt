-- What the call of request L14 answers, and what it leaves in every lent buffer. Samples and vectors are only read.
use Rattle.std.specs.Prelude.{◌≡◌, ◌*◌, ◌≤◌, ◌<◌}
use Rattle.stacker.specs.Prelude.{List, ℕ, get_or, ℤ, zeros, Shape, after, Noise, Tuning, scene_of, merged, merge_of}
use Rattle.noise.specs.declared.Curve.{Curve}
use Rattle.noise.specs.declared.Noise.TheVariants.{Measured}
use Rattle.noise.specs.Curve.{curve_of}
use Rattle.range.specs.Crossed.{NoneAbove}
use Rattle.range.specs.Frames.{low_frame, high_frame}
use Rattle.admit_range.specs.Refusals.{range_refusal}

pub record Ranged (s : Shape) (reference : ℕ) (lower upper : Noise) (tuning : Tuning) (samples : List ℕ) (vectors : List ℤ) (low low' high high' : List ℕ) (work work' : List ℤ) (number : ℕ) : Type 0 where
  pub answer : number ≡ range_refusal s reference lower upper tuning samples vectors low high work
  -- "Give two frames, low and high, from lent vectors"
  pub lows : low' ≡ after (range_refusal s reference lower upper tuning samples vectors low high work) low (low_frame (scene_of (merge_of s reference lower tuning) samples vectors) (scene_of (merge_of s reference upper tuning) samples vectors))
  pub highs : high' ≡ after (range_refusal s reference lower upper tuning samples vectors low high work) high (high_frame (scene_of (merge_of s reference lower tuning) samples vectors) (scene_of (merge_of s reference upper tuning) samples vectors))
  pub clean : work' ≡ after (range_refusal s reference lower upper tuning samples vectors low high work) work (zeros work)
  -- "For every curve between the two ends, the frame merged with it lies between low and high at each sample"
  pub inside : number ≡ 0 → (c : Curve) → NoneAbove (curve_of lower) c → NoneAbove c (curve_of upper) → (k : ℕ) → k < s.width * s.height →
      let between = get_or (merged (scene_of (merge_of s reference (Measured c) tuning) samples vectors)) k 0 in
      (get_or low' k 0 ≤ between) × (between ≤ get_or high' k 0)
  -- "Equal curves give low and high equal to the plain merge": equal are two of which neither is above the other
  pub same : number ≡ 0 → NoneAbove (curve_of lower) (curve_of upper) → NoneAbove (curve_of upper) (curve_of lower) →
      let plain = merged (scene_of (merge_of s reference lower tuning) samples vectors) in
      (low' ≡ plain) × (high' ≡ plain)
