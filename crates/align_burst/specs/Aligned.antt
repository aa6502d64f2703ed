-- The vectors of a burst, and the sums of their residuals.
use Rattle.std.specs.Prelude.{◌++◌, ◌-◌}
use Rattle.align_burst.specs.Prelude.{List, ℕ, ℤ, replicate, tab, Shape, sample_at, other_frame, vector_list, VectorField}
use Rattle.align_burst.specs.Frames.{vectors_of, residual_of}

module _ (s : Shape) (reference : ℕ) (samples : List ℕ) where
  -- the vectors of the k-th other frame
  unfoldable pub field_of : (k : ℕ) → VectorField
  field_of k = vectors_of s (sample_at s samples reference) (sample_at s samples (other_frame reference k))

  -- "the sum of finest residuals" of the k-th other frame
  unfoldable pub sum_of : (k : ℕ) → ℕ
  sum_of k = residual_of s (sample_at s samples reference) (sample_at s samples (other_frame reference k))

  -- "For each other frame in rising index, tiles go row by row, each as down, right."
  unfoldable pub aligned_vectors : List ℤ
  aligned_vectors = vector_list s field_of

  -- "per other frame in that order, the sum of finest residuals; the rest of its seven places are 0"
  unfoldable pub residual_sums : List ℕ
  residual_sums = tab (s.count - 1) sum_of ++ replicate (7 - (s.count - 1)) 0
