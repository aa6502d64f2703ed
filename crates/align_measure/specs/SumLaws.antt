-- "the sum of finest residuals": where the vectors are those that align finds, the residuals of a frame's tiles add up to the sum that it answers.
use Rattle.std.specs.Prelude.{◌≡◌, ◌+◌, ◌-◌, ◌*◌, ◌/◌, ◌%◌, ◌<◌}
use Rattle.align_measure.specs.Prelude.{ap₂, ◌∙◌, List, ℕ, get_or, Shape, Allowed, TileSide, sample_at, finest_level, tile_rows, tile_columns, other_frame, frame_tiles, residual_length, residual, level_tile, pairs, vectors_of, residual_of}
use Rattle.algebra.specs.Sums.{sum_n}
use Rattle.algebra.specs.SumLaws.{sum_n-cong}
use Rattle.sequences.specs.Place.{row_below, column_below}
use Rattle.sequences.specs.TabLaws.{get_d-tab}
use Rattle.geometry.specs.ReadLaws.{cell_below}
use Rattle.geometry.specs.LevelTiles.{level_tiles}
use Rattle.geometry.specs.TileLaws.{finest-tiles}
use Rattle.geometry.specs.VectorLaws.{list-down, list_right}
use Rattle.align_field.specs.LevelSums.{residuals}
use Rattle.align_burst.specs.Fields.{level_rows, level_columns, residual_sum}
use Rattle.align_burst.specs.Aligned.{field_of, sum_of, aligned_vectors}
use Rattle.align_measure.specs.Residuals.{tile_residual, residual_word, tile_residuals}
use Rattle.align_measure.specs.FrameLaws.{word-tile}

module _ {s : Shape} (ok : Allowed s) (sided : TileSide s.side) (reference : ℕ) (samples : List ℕ) (k : ℕ) (h : k < s.count - 1) where
  -- the residual of tile t at the vector that align finds for it
  abbrev found_residual : (columns t : ℕ) → ℕ
  found_residual columns t = residual (finest_level s.side).squared (pairs s (sample_at s samples reference) (sample_at s samples (other_frame reference k)) 0) (level_tile (finest_level s.side) (t / columns) (t % columns)) (field_of s reference samples k (t / columns) (t % columns))

  tile-found : (t : ℕ) → t < frame_tiles s → tile_residual s reference samples (aligned_vectors s reference samples) k (t / tile_columns s) (t % tile_columns s) ≡ found_residual (tile_columns s) t
  unfolding tile_residual aligned_vectors
  tile-found t l =
      let row = t / tile_columns s in
      let column = t % tile_columns s in
      let high = row_below t (tile_rows s) (tile_columns s) l in
      let wide = column_below t (tile_rows s) (tile_columns s) l in
      ap₂ (λ down right. residual (finest_level s.side).squared (pairs s (sample_at s samples reference) (sample_at s samples (other_frame reference k)) 0) (level_tile (finest_level s.side) row column) (record { down = down; right = right }))
      (list-down s k row column h high wide (field_of s reference samples)) (list_right s k row column h high wide (field_of s reference samples))

  word-found : (t : ℕ) → t < frame_tiles s → get_or (tile_residuals s reference samples (aligned_vectors s reference samples)) (k * frame_tiles s + t) 0 ≡ found_residual (tile_columns s) t
  unfolding tile_residuals residual_length
  word-found t l =
      get_d-tab (residual_word s reference samples (aligned_vectors s reference samples)) 0 (residual_length s) (k * frame_tiles s + t) (cell_below k t (s.count - 1) (frame_tiles s) h l)
      ∙ word-tile s reference samples (aligned_vectors s reference samples) k t l
      ∙ tile-found t l

  sum-found : sum_n (frame_tiles s) (found_residual (tile_columns s)) ≡ sum_of s reference samples k
  unfolding sum_of field_of vectors_of residual_of residual_sum residuals level_rows level_columns level_tiles pairs
  sum-found = rw (← finest-tiles sided ok.high, ← finest-tiles sided ok.wide)

  pub residuals-sum : sum_n (frame_tiles s) (λ t. get_or (tile_residuals s reference samples (aligned_vectors s reference samples)) (k * frame_tiles s + t) 0) ≡ sum_of s reference samples k
  residuals-sum = sum_n-cong (frame_tiles s) _ (found_residual (tile_columns s)) word-found ∙ sum-found
