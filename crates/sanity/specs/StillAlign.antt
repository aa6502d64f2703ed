-- Try a burst of one picture taken several times: every vector that alignment finds is 0, and so is every sum of residuals.
use Rattle.std.specs.Prelude.{◌≡◌, ◌++◌, ◌+◌, ◌-◌, ◌<◌}
use Rattle.sanity.specs.Prelude.{ap, ◌∙◌, List, ℕ, arith, pos, Shape, vector_length, sample_at, other_frame, pairs, vectors_of, residual_of, field_of, sum_of, aligned_vectors, residual_sums}
use Rattle.std.proofs.Math.Nat.{mul-zero}
use Rattle.std.proofs.Math.ListN.{replicate, replicate-append-replicate}
use Rattle.sequences.specs.Grid.{tab-ext}
use Rattle.sequences.specs.ClearLaws.{tab-const}
use Rattle.sanity.specs.Frames.{Burst, Alike}
use Rattle.geometry.specs.VectorLaws.{other-below}
use Rattle.sanity.specs.FrameLaws.{alike_same}
use Rattle.sanity.specs.StillLaws.{Equal, equal_rest, still-residual, StillField, field-still, sum-still, vectors-still}
use Rattle.sanity.specs.PyramidLaws.{pairs-equal}

module _ (s : Shape) (reference : ℕ) (samples : List ℕ) (burst : Burst s reference samples) (alike : Alike s reference samples) where
  pub pair-equal : (k : ℕ) → k < s.count - 1 → (l : ℕ) → Equal (pairs s (sample_at s samples reference) (sample_at s samples (other_frame reference k)) l)
  pair-equal k h = pairs-equal s burst.sampled.allowed _ _ (alike_same alike (other_frame reference k) (other-below reference k s.count h))

  -- of each other frame
  pub field-none : (k : ℕ) → k < s.count - 1 → StillField (field_of s reference samples k)
  unfolding field_of vectors_of
  field-none k h = field-still _ _ (λ l. equal_rest _ (pair-equal k h l))

  pub residual-none : (k : ℕ) → k < s.count - 1 → sum_of s reference samples k ≡ 0
  unfolding sum_of residual_of
  residual-none k h = sum-still _ _ (λ l. equal_rest _ (pair-equal k h l)) 0 (λ row column. still-residual _ (pair-equal k h 0) _ _) ∙ mul-zero _

  -- and all of them
  pub vectors-none : aligned_vectors s reference samples ≡ replicate (vector_length s) (pos 0)
  vectors-none = vectors-still s reference samples burst.sampled.allowed field-none

  pub sums_none : residual_sums s reference samples ≡ replicate 7 0
  unfolding residual_sums
  sums_none =
      let seven : s.count - 1 + (7 - (s.count - 1)) ≡ 7 = omega (arith, burst.sampled.allowed.few) in
      ap (λ l. l ++ replicate (7 - (s.count - 1)) 0) (tab-ext (s.count - 1) _ _ residual-none ∙ tab-const 0 (s.count - 1))
      ∙ replicate-append-replicate (s.count - 1) (7 - (s.count - 1)) 0 ∙ ap (λ n. replicate n 0) seven
