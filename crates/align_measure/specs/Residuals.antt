-- The finest residual of each tile of the other frames, at lent vectors.
use Rattle.std.specs.Prelude.{◌/◌, ◌%◌}
use Rattle.align_measure.specs.Prelude.{List, ℕ, ℤ, Shape, sample_at, finest_level, tile_columns, other_frame, down_at, right_at, frame_tiles, residual_length, residual, level_tile, pairs}
use Rattle.sequences.specs.Tab.{tab}

module _ (s : Shape) (reference : ℕ) (samples : List ℕ) (vectors : List ℤ) where
  -- "absolute at level 0": the residual of the tile at a row and a column of tiles, at the vector lent for it, for the k-th other frame
  unfoldable pub tile_residual : (k row column : ℕ) → ℕ
  tile_residual k row column =
      let level = finest_level s.side in
      residual level.squared (pairs s (sample_at s samples reference) (sample_at s samples (other_frame reference k)) 0) (level_tile level row column)
      (record { down = down_at s vectors k row column; right = right_at s vectors k row column })

  -- "For each other frame in rising index, tiles go row by row": word i
  unfoldable pub residual_word : ℕ → ℕ
  residual_word i =
      let tile = i % frame_tiles s in
      tile_residual (i / frame_tiles s) (tile / tile_columns s) (tile % tile_columns s)

  -- one word for each tile of each other frame, in the order of the vectors
  unfoldable pub tile_residuals : List ℕ
  tile_residuals = tab (residual_length s) residual_word
