-- "how many tile rows it summed in all" (request L12): level by level as the vectors are found, over the frames and the burst.
use Rattle.std.specs.Prelude.{◌+◌, ◌-◌}
use Rattle.align_burst.specs.Prelude.{List, ℕ, Shape, Image, sample_at, finest_level, level1, level2, level3, finest_step, step2to1, step3to2, other_frame, Pair, coarsest_rows, finer_rows}
use Rattle.algebra.specs.Sums.{sum_n}
use Rattle.align_burst.specs.Fields.{level_rows, level_columns, field1, field2, field3}
use Rattle.align_burst.specs.Frames.{pairs}

-- the levels 3 to 0 of a frame, from the levels' pairs of images
unfoldable pub rows3 : (ℕ → Pair) → ℕ
rows3 p = coarsest_rows level3 (p 3) (level_rows level3 (p 3)) (level_columns level3 (p 3))

unfoldable pub rows2 : (ℕ → Pair) → ℕ
rows2 p = finer_rows level2 step3to2 (level_rows level3 (p 3)) (level_columns level3 (p 3)) (p 2) (field3 p) (level_rows level2 (p 2)) (level_columns level2 (p 2))

unfoldable pub rows1 : (ℕ → Pair) → ℕ
rows1 p = finer_rows level1 step2to1 (level_rows level2 (p 2)) (level_columns level2 (p 2)) (p 1) (field2 p) (level_rows level1 (p 1)) (level_columns level1 (p 1))

unfoldable pub rows0 : (side : ℕ) → (ℕ → Pair) → ℕ
rows0 side p =
    finer_rows (finest_level side) (finest_step side) (level_rows level1 (p 1)) (level_columns level1 (p 1)) (p 0) (field1 p) (level_rows (finest_level side) (p 0)) (level_columns (finest_level side) (p 0))

unfoldable pub coarse_rows : (ℕ → Pair) → ℕ
coarse_rows p = rows3 p + rows2 p + rows1 p

unfoldable pub frame_rows : (side : ℕ) → (ℕ → Pair) → ℕ
frame_rows side p = coarse_rows p + rows0 side p

unfoldable pub rows_of : Shape → (reference other : Image) → ℕ
rows_of shape reference other = frame_rows shape.side (pairs shape reference other)

-- the k-th other frame of a burst
abbrev pub count_of : (s : Shape) → (reference : ℕ) → (samples : List ℕ) → (k : ℕ) → ℕ
count_of s reference samples k = rows_of s (sample_at s samples reference) (sample_at s samples (other_frame reference k))

-- all of them
unfoldable pub rows_summed : (s : Shape) → (reference : ℕ) → (samples : List ℕ) → ℕ
rows_summed s reference samples = sum_n (s.count - 1) (count_of s reference samples)
