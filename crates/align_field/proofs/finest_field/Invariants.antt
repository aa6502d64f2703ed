-- Each turn writes a tile's vector and adds its residual.
use Rattle.std.specs.Prelude.{◌≡◌, ◌*◌, ◌/◌, ◌%◌}
use Rattle.align_field.specs.Prelude.{length, finest_level, candidate_rows, tile_rows_most, numbered, level_tile, pair_in, guess_from}
use Rattle.sequences.specs.Sum.{Summed}
use Rattle.align_residual.specs.Magnitudes.{residual_most}
use Rattle.align_residual.specs.Residual.{residual}
use Rattle.align_field.proofs.Placing.{Placing}
use Rattle.align_field.specs.Loops.{finest_in}
use Rattle.align_field.proofs.finest_field.Given as goal

abbrev pub invariant-loop-k : goal.invariant-loop-k
invariant-loop-k l =
    let f = l.fn in
    let g = l.grid in
    Placing f.vectors g.at g.columns (g.rows * g.columns) (finest_in f.side f.work f.area f.coarse) l.k l.vectors
    × Summed (λ k. residual (finest_level f.side).squared (pair_in f.work f.area) (level_tile (finest_level f.side) (k / g.columns) (k % g.columns)) (numbered g.columns (finest_in f.side f.work f.area f.coarse) k)) residual_most (g.rows * g.columns) l.k l.residual
    × Summed (λ k. candidate_rows (finest_level f.side).squared (pair_in f.work f.area) (level_tile (finest_level f.side) (k / g.columns) (k % g.columns)) (guess_from f.side 0 f.work f.area f.coarse (level_tile (finest_level f.side) (k / g.columns) (k % g.columns)) (k / g.columns) (k % g.columns))) tile_rows_most (g.rows * g.columns) l.k l.rows
    × (length l.samples ≡ 1024)
    × (length l.window ≡ 1600)
    × (length l.other ≡ 1024)
