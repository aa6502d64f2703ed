-- The vectors that alignment finds are such as merge accepts: no part is beyond the bound of level 0.
use Rattle.std.specs.Prelude.{◌≤◌}
use Rattle.algebra.specs.Prelude.{List, ℕ, arith, pos, nat_abs}
use Rattle.sequences.specs.TabLaws.{tab-every}
use Rattle.geometry.specs.declared.Shape.{Shape}
use Rattle.geometry.specs.Shape.{vector_length}
use Rattle.geometry.specs.Fits.{VectorsFit}
use Rattle.geometry.specs.Vectors.{word_of, vector_list}
use Rattle.align_burst.specs.FieldLaws.{word-most}
use Rattle.align_burst.specs.Frames.{vectors_of}
use Rattle.align_burst.specs.Aligned.{field_of, aligned_vectors}
use Rattle.pipeline.specs.Reach.{reaches}

module _ (s : Shape) (reference : ℕ) (samples : List ℕ) where
  part-fits : (i : ℕ) → nat_abs (word_of s (field_of s reference samples) i) ≤ 172
  unfolding word_of field_of vectors_of
  part-fits i = word-most _ _ _ ((reaches _).at0 _) _

  pub found-fit : VectorsFit (aligned_vectors s reference samples)
  unfolding aligned_vectors vector_list
  found-fit = record { most = tab-every (λ z. nat_abs z ≤ 172) (pos 0) (word_of s (field_of s reference samples)) (omega arith) part-fits (vector_length s) }
