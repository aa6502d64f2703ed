-- A band of the merged frame: what the call for it answers, and what it leaves in every lent buffer. Samples and vectors are only read.
use Rattle.std.specs.Prelude.{◌≡◌, ◌*◌}
use Rattle.stacker.specs.Prelude.{List, ℕ, take, drop, ℤ, zeros, Shape, after, Noise, Tuning, scene_of, merged, merge_of}
use Rattle.admit_call.specs.Bands.{band_refusal}
use Rattle.stacker.specs.Calls.{Close, Capped}

-- rows `top` to top + rows − 1 of a frame of that width
unfoldable pub band : (width top rows : ℕ) (frame : List ℕ) → List ℕ
band width top rows frame = take (rows * width) (drop (top * width) frame)

pub record Banded (s : Shape) (reference : ℕ) (noise : Noise) (tuning : Tuning) (top rows : ℕ) (samples : List ℕ) (vectors : List ℤ) (output output' : List ℕ) (work work' : List ℤ) (number : ℕ) : Type 0 where
  pub answer : number ≡ band_refusal s reference noise tuning top rows samples vectors output work
  pub result : output' ≡ after (band_refusal s reference noise tuning top rows samples vectors output work) output (band s.width top rows (merged (scene_of (merge_of s reference noise tuning) samples vectors)))
  pub clean : work' ≡ after (band_refusal s reference noise tuning top rows samples vectors output work) work (zeros work)
  pub near : number ≡ 0 → Close (scene_of (merge_of s reference noise tuning) samples vectors) top rows output'
  pub ceiling : number ≡ 0 → Capped (scene_of (merge_of s reference noise tuning) samples vectors) top rows output'
