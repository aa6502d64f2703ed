-- The words of other crates that this crate's files share. Lemmas are not passed on: of those the `use` line says where they are.
pub use Rattle.algebra.specs.Prelude.{List, ℕ, ℤ, ap, arith, get_or, length, lit≤, nat_abs, rules, pos, refl, suc, zero}
pub use Rattle.std.specs.Prelude.{replicate, ◌%◌, ◌*◌, ◌++◌, ◌+◌, ◌-◌, ◌/◌, ◌<◌, ◌^◌, ◌≡◌, ◌≤◌}
pub use Rattle.sequences.specs.Tab.{tab}
pub use Rattle.sequences.specs.Write.{written}
pub use Rattle.geometry.specs.Fits.{AlignFits, Allowed, AllowedSize, BurstFits, SamplesFit, TileSide}
unfoldable pub use Rattle.geometry.specs.LevelTiles.{level_tiles}
pub use Rattle.geometry.specs.Read.{Image, read, sample_at}
unfoldable pub use Rattle.geometry.specs.Shape.{vector_length, work_length}
pub use Rattle.geometry.specs.Tiles.{Level, Step, finest_level, finest_step, frame_parts, level0, level1, level2, level3, step2to1, step3to2, tile_columns, tile_rows}
unfoldable pub use Rattle.geometry.specs.Tiles.{level_size, tile_count}
pub use Rattle.geometry.specs.Vectors.{VectorField, numbered, other_frame, word_of}
unfoldable pub use Rattle.geometry.specs.Vectors.{part, parts_of, vector_list, word}
pub use Rattle.geometry.specs.declared.Shape.{Shape}
pub use Rattle.align_pyramid.specs.Layout.{Built, Levels, pyramid_length}
unfoldable pub use Rattle.align_pyramid.specs.Layout.{align_length, offset, tiles}
pub use Rattle.align_patch.specs.Bounds.{Within}
pub use Rattle.align_residual.specs.Residual.{Pair}
pub use Rattle.align_tile.specs.Stored.{Stored}
unfoldable pub use Rattle.align_tile.specs.Stored.{pair_in}
pub use Rattle.align_tile.specs.declared.Area.{Area}
pub use Rattle.align_level.specs.Fields.{level_at}
unfoldable pub use Rattle.align_level.specs.Fields.{coarsest, finer, from_coarse, level_tile}
pub use Rattle.align_level.specs.Grids.{Led, Vectors, finer_in}
unfoldable pub use Rattle.align_level.specs.Grids.{field_at}
pub use Rattle.align_level.specs.declared.Grid.{Grid}
pub use Rattle.align_field.specs.LevelSums.{residuals}
unfoldable pub use Rattle.align_field.specs.LevelSums.{coarsest_rows, finer_rows}
pub use Rattle.align_field.specs.Loops.{Before, Ends, Few, Finest, Laid, Room, field_in, finer_rows_in, rows_in}
unfoldable pub use Rattle.align_field.specs.Loops.{finest_in}
pub use Rattle.align_field.specs.declared.Sums.{Sums}
