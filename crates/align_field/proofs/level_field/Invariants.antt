-- Each turn writes a tile's vector behind the images and the coarse vectors, which stay as they were.
use Rattle.std.specs.Prelude.{◌≡◌, ◌*◌, ◌/◌, ◌%◌}
use Rattle.align_field.specs.Prelude.{length, tile_rows_most, answer_at}
use Rattle.sequences.specs.Sum.{Summed}
use Rattle.align_field.specs.Loops.{field_in}
use Rattle.align_field.proofs.Placing.{Placing}
use Rattle.align_field.proofs.level_field.Given as goal

abbrev pub invariant-loop-k : goal.invariant-loop-k
invariant-loop-k l =
    let s = l.step in
    let g = l.grid in
    Placing l.fn.work g.at g.columns (g.rows * g.columns) (field_in s.side s.level l.fn.work l.area s.coarse) l.k l.work
    × Summed (λ k. (answer_at s.side s.level l.fn.work l.area s.coarse (k / g.columns) (k % g.columns)).rows) tile_rows_most (g.rows * g.columns) l.k l.summed
    × (length l.samples ≡ 1024)
    × (length l.window ≡ 1600)
    × (length l.other ≡ 1024)
