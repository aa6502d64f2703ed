-- The length question of the capture station.
use Rattle.std.specs.Prelude.{◌∷◌, ◌++◌}
use Rattle.admit_length.specs.Prelude.{cond, List, [], ℕ, eqb, first, Shape, shaped, side_refusal, row_refusal, sample_length, vector_length, output_length, work_length}
use Rattle.refusals.specs.Numbers as no
use Rattle.admit_length.specs.Order.{shape_tests}

-- the length that a refusal of the numbers 4 to 7 tests, "or 0 for any other number"
unfoldable pub length_tested : Shape → (number : ℕ) → ℕ
length_tested s number =
    cond (eqb number no.wrong_sample_length) (sample_length s)
    (cond (eqb number no.wrong_vector_length) (vector_length s)
    (cond (eqb number no.wrong_output_length) (output_length s)
    (cond (eqb number no.wrong_work_length) (work_length s) 0)))

-- 1, 2, 22 and 23: "takes side and L, and is 0 where 22 or 23 would stand" (request L9)
unfoldable pub question_tests : Shape → List ℕ
question_tests s = shape_tests s ++ side_refusal s ∷ row_refusal s ∷ []

-- "given W, H, N and one of the numbers 4 to 7, answers the length which that refusal tests, or 0 for any other number or where
-- refusal 1 or 2 would stand"
unfoldable pub length_question : (width height count side row_length number : ℕ) → ℕ
length_question width height count side row_length number =
    let s = shaped width height count side row_length in
    cond (eqb (first (question_tests s)) 0) (length_tested s number) 0
