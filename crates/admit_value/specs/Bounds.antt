-- Refusals 11 and 12: tests of what the lent samples and vectors hold.
use Rattle.algebra.specs.Prelude.{List, ℕ, ltb, length, get_or, ℤ, pos, nat_abs}
use Rattle.refusals.specs.Numbers as no
use Rattle.refusals.specs.Tests.{refuse}
use Rattle.refusals.specs.Some.{some}
use Rattle.geometry.specs.declared.Shape.{Shape}
use Rattle.geometry.specs.Read.{sample_at}

-- refusal 11: "sample > 4095", over frame, row and column
unfoldable pub sample_refusal : Shape → List ℕ → ℕ
sample_refusal s samples =
    refuse no.sample_value (some s.count (λ frame. some s.height (λ row. some s.width (λ column. ltb 4095 (sample_at s samples frame row column)))))

-- refusal 12: "vector part outside −172..172"
unfoldable pub vector_refusal : List ℤ → ℕ
vector_refusal vectors = refuse no.vector_part (some (length vectors) (λ k. ltb 172 (nat_abs (get_or vectors k (pos 0)))))
