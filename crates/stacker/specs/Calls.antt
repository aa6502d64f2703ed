-- What each call answers, and what it leaves in every lent buffer. Samples, and merge's vectors, are only read.
use Rattle.std.specs.Prelude.{◌≡◌, ◌∷◌, ◌+◌, ◌*◌, ◌/◌, ◌%◌, ◌<◌}
use Rattle.stacker.specs.Prelude.{List, [], ℕ, get_or, ℤ, pos, zeros, Shape, after, Noise, aligned_vectors, residual_sums, rows_summed, Scene, scene_of, merged, Tuning, align_refusal, run_refusal, merge_refusal, merge_of}
use Rattle.algebra.specs.Fraction.{whole, Within}
use Rattle.recipe.specs.ExactMerge.{exact_at, exact_filtered_at}
use Rattle.closeness.specs.Ceiling.Leak.{largest_over, leak, UnderCeiling}
use Rattle.stacker.specs.declared.Alignment.{Alignment}

-- "beside a refusal every other returned field is 0": the seven residual sums
abbrev pub no_sums : List ℕ
no_sums = 0 ∷ 0 ∷ 0 ∷ 0 ∷ 0 ∷ 0 ∷ 0 ∷ []

-- "Align, and so run, also returns, per other frame in that order, the sum of finest residuals", and "how many tile rows it summed in all" (request
-- L12): the answer beside a number
unfoldable pub answered : (number : ℕ) (sums : List ℕ) (rows : ℕ) → Alignment
answered number sums rows = record { refusal = number; residuals = after number no_sums sums; rows = after number 0 rows }

-- Demand 3: "every sample of the merged frame differs by at most five eighths of one sample step from the sample at the same place in the exact HDR+ merge", where
-- s is 0, and by at most one step at side 32 (request L8), which takes no other s; and "users of the filter are owed a sample within two steps of the exact
-- filtered merge with the same V'" (request L13), at any s. The output has the frame's rows from `top` on, so many of them
pub record Close (scene : Scene) (top rows : ℕ) (output : List ℕ) : Type 0 where
  pub filtered : scene.side.side ≡ 16 → (k : ℕ) → k < rows * scene.width → Within 2 1 (whole (pos (get_or output k 0))) (exact_filtered_at scene (top + k / scene.width) (k % scene.width))
  pub close : scene.side.side ≡ 16 → scene.tuning.spatial ≡ 0 → (k : ℕ) → k < rows * scene.width → Within 5 8 (whole (pos (get_or output k 0))) (exact_at scene (top + k / scene.width) (k % scene.width))
  pub wide : scene.side.side ≡ 32 → (k : ℕ) → k < rows * scene.width → Within 1 1 (whole (pos (get_or output k 0))) (exact_at scene (top + k / scene.width) (k % scene.width))

-- Request L11: "a merged sample differs from the reference sample by at most one step plus half the square root of the largest noise number (in squared
-- samples) of the four tiles over it", which request L13 keeps where s is 0
pub record Capped (scene : Scene) (top rows : ℕ) (output : List ℕ) : Type 0 where
  pub capped : scene.tuning.spatial ≡ 0 → (k : ℕ) → k < rows * scene.width →
      let row = top + k / scene.width in
      let column = k % scene.width in
      UnderCeiling scene.side (leak (pos (get_or output k 0)) (pos (scene.reference row column))) (largest_over scene row column)

-- align: "burst to vectors"
pub record Aligned (s : Shape) (reference : ℕ) (samples : List ℕ) (vectors vectors' work work' : List ℤ) (r : Alignment) : Type 0 where
  pub answer : r ≡ answered (align_refusal s reference samples vectors work) (residual_sums s reference samples) (rows_summed s reference samples)
  pub found : vectors' ≡ after (align_refusal s reference samples vectors work) vectors (aligned_vectors s reference samples)
  pub clean : work' ≡ after (align_refusal s reference samples vectors work) work (zeros work)

-- merge: "burst and lent vectors to output"
pub record Merged (s : Shape) (reference : ℕ) (noise : Noise) (tuning : Tuning) (samples : List ℕ) (vectors : List ℤ) (output output' : List ℕ) (work work' : List ℤ) (number : ℕ) : Type 0 where
  pub answer : number ≡ merge_refusal s reference noise tuning samples vectors output work
  pub result : output' ≡ after (merge_refusal s reference noise tuning samples vectors output work) output (merged (scene_of (merge_of s reference noise tuning) samples vectors))
  pub clean : work' ≡ after (merge_refusal s reference noise tuning samples vectors output work) work (zeros work)
  pub near : number ≡ 0 → Close (scene_of (merge_of s reference noise tuning) samples vectors) 0 s.height output'
  pub ceiling : number ≡ 0 → Capped (scene_of (merge_of s reference noise tuning) samples vectors) 0 s.height output'

-- run: "align, then merge"
pub record Ran (s : Shape) (reference : ℕ) (noise : Noise) (tuning : Tuning) (samples : List ℕ) (vectors vectors' : List ℤ) (output output' : List ℕ) (work work' : List ℤ) (r : Alignment) : Type 0 where
  pub answer : r ≡ answered (run_refusal s reference noise tuning samples vectors output work) (residual_sums s reference samples) (rows_summed s reference samples)
  pub found : vectors' ≡ after (run_refusal s reference noise tuning samples vectors output work) vectors (aligned_vectors s reference samples)
  pub result : output' ≡ after (run_refusal s reference noise tuning samples vectors output work) output (merged (scene_of (merge_of s reference noise tuning) samples (aligned_vectors s reference samples)))
  pub clean : work' ≡ after (run_refusal s reference noise tuning samples vectors output work) work (zeros work)
  pub near : r.refusal ≡ 0 → Close (scene_of (merge_of s reference noise tuning) samples vectors') 0 s.height output'
  pub ceiling : r.refusal ≡ 0 → Capped (scene_of (merge_of s reference noise tuning) samples vectors') 0 s.height output'
