-- How many tile rows are summed.
use Rattle.std.specs.Prelude.{ℕ}

-- those of a frame of 4096 by 4096: 1344 · (257² + 129² + 33²) + 648 · 17², and of its burst of eight. With side 32 level 0 has 2688 · 129², which is less
abbrev pub frame_rows_most : ℕ
frame_rows_most = 112786248

abbrev pub burst_rows_most : ℕ
burst_rows_most = 789503736
