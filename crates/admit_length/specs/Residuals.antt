-- The tests 1 to 7 of the call that answers each tile's residual, as merge's, where 6 is of the residuals' length.
use Rattle.std.specs.Prelude.{◌∷◌, ◌++◌, ◌-◌, ◌*◌}
use Rattle.admit_length.specs.Prelude.{List, [], ℕ, Shape, sample_length, vector_length, work_length, length_refusal, tile_rows, tile_columns}
use Rattle.refusals.specs.Numbers as no
use Rattle.admit_length.specs.Order.{burst_tests}

-- how many tiles level 0 has
abbrev pub frame_tiles : Shape → ℕ
frame_tiles s = tile_rows s * tile_columns s

-- one word for each tile of each other frame: half as many as the vectors have
unfoldable pub residual_length : Shape → ℕ
residual_length s = (s.count - 1) * frame_tiles s

-- 4 to 7
unfoldable pub residual_lengths : Shape → (samples vectors residuals work : ℕ) → List ℕ
residual_lengths s samples vectors residuals work =
    length_refusal no.wrong_sample_length (sample_length s) samples
    ∷ length_refusal no.wrong_vector_length (vector_length s) vectors
    ∷ length_refusal no.wrong_output_length (residual_length s) residuals
    ∷ length_refusal no.wrong_work_length (work_length s) work
    ∷ []

unfoldable pub residual_shape_tests : Shape → (reference samples vectors residuals work : ℕ) → List ℕ
residual_shape_tests s reference samples vectors residuals work = burst_tests s reference ++ residual_lengths s samples vectors residuals work
