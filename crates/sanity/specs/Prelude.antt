-- The words of other crates that this crate's files share. Lemmas are not passed on: of those the `use` line says where they are.
pub use Rattle.algebra.specs.Prelude.{Bool, List, T, ℕ, ℤ, [], ap, ap₂, arith, cond, eqb, false, get_or, lit<, lit≤, ltb, nat_abs, not, pos, refl, subst, suc, sym, true, zero, ◌∙◌}
pub use Rattle.std.specs.Prelude.{length, replicate, ◌%◌, ◌&&◌, ◌*◌, ◌++◌, ◌+◌, ◌-◌, ◌-ℤ◌, ◌/◌, ◌<◌, ◌^◌, ◌||◌, ◌∷◌, ◌≡◌, ◌≤◌}
unfoldable pub use Rattle.algebra.specs.Clamp.{clamp_z, max_z, min_z}
unfoldable pub use Rattle.algebra.specs.Nearest.{away, upward}
pub use Rattle.algebra.specs.Order.{0≤pos, zarith}
unfoldable pub use Rattle.algebra.specs.Sums.{sum_n, sum_z}
unfoldable pub use Rattle.sequences.specs.Clear.{zeros}
unfoldable pub use Rattle.sequences.specs.Tab.{tab}
pub use Rattle.refusals.specs.Tests.{refuse, ◌before◌}
unfoldable pub use Rattle.refusals.specs.Tests.{first}
pub use Rattle.geometry.specs.Fits.{Allowed, AllowedSize, BurstFits, Sampled, SamplesFit, TileSide}
pub use Rattle.geometry.specs.Read.{Image, inside}
unfoldable pub use Rattle.geometry.specs.Read.{plane_of, read, sample_at, sample_index}
pub use Rattle.geometry.specs.Shape.{length_refusal, work_length}
unfoldable pub use Rattle.geometry.specs.Shape.{output_length, sample_length, vector_length}
pub use Rattle.geometry.specs.Tiles.{Level, Step, finest_level, finest_step, frame_parts, level0, level1, level2, level3, origin, step2to1, step3to2, tile_columns, tile_rows}
unfoldable pub use Rattle.geometry.specs.Tiles.{level_size, tile_count}
pub use Rattle.geometry.specs.Vectors.{VectorField, vector_place}
unfoldable pub use Rattle.geometry.specs.Vectors.{down_at, other_frame, part, right_at, vector_list, word, word_of}
pub use Rattle.geometry.specs.declared.Shape.{Shape}
pub use Rattle.geometry.specs.declared.vectors.Vector.{Vector}
pub use Rattle.admit_length.specs.Residuals.{frame_tiles}
unfoldable pub use Rattle.admit_length.specs.Residuals.{residual_length}
pub use Rattle.recipe.specs.Correction.{twiddle_im}
unfoldable pub use Rattle.recipe.specs.Correction.{bin_im, bin_re, correction_at, filtered, inverse_at, quantized, row_im, row_re, twiddle_re, wiener}
unfoldable pub use Rattle.recipe.specs.Merged.{merged, output_at, plane_output, word_at}
pub use Rattle.recipe.specs.NoiseNumber.{squared}
unfoldable pub use Rattle.recipe.specs.NoiseNumber.{noise_number, sum_of_squares, tile_root, variance}
pub use Rattle.recipe.specs.Output.{column_in, row_in, weight_in}
unfoldable pub use Rattle.recipe.specs.PlainOutput.{output_sample}
pub use Rattle.recipe.specs.Scene.{Scene, difference_over, noise_over, scene_of, tile_over}
unfoldable pub use Rattle.recipe.specs.Scene.{black_of, other_tile, reference_tile, scene_at, tile_at, tile_difference, tile_here, tile_noise, tile_spatial}
pub use Rattle.recipe.specs.Side.{Side}
unfoldable pub use Rattle.recipe.specs.Side.{cos_at, sin_at}
unfoldable pub use Rattle.recipe.specs.Sides.{side_of}
unfoldable pub use Rattle.recipe.specs.Tables.{cosine16, cosines, side16, sine16}
pub use Rattle.recipe.specs.declared.Merge.{Merge}
pub use Rattle.recipe.specs.declared.Tuning.{Tuning}
pub use Rattle.noise.specs.declared.Noise.{Noise}
pub use Rattle.admit_call.specs.Refusals.{filter_side_refusal, merge_of, run_refusal}
unfoldable pub use Rattle.admit_call.specs.Refusals.{align_refusal, content_tests, merge_refusal, run_tests}
pub use Rattle.align_residual.specs.Residual.{Pair, gap}
unfoldable pub use Rattle.align_residual.specs.Residual.{difference, residual, row_residual}
pub use Rattle.align_residual.specs.declared.Tile.{Tile}
pub use Rattle.align_search.specs.Vectors.{still, ◌plus◌, ◌times◌}
pub use Rattle.align_level.specs.Fields.{level_at}
unfoldable pub use Rattle.align_level.specs.Fields.{coarsest, finer, from_coarse, level_tile}
unfoldable pub use Rattle.align_burst.specs.Aligned.{aligned_vectors, field_of, residual_sums, sum_of}
unfoldable pub use Rattle.align_burst.specs.Fields.{field0, field1, field2, field3, level_columns, level_rows, residual_sum}
pub use Rattle.align_burst.specs.Frames.{level_image}
unfoldable pub use Rattle.align_burst.specs.Frames.{pairs, residual_of, vectors_of}
pub use Rattle.align_burst.specs.Rows.{frame_rows}
unfoldable pub use Rattle.align_burst.specs.Rows.{rows_of, rows_summed}
unfoldable pub use Rattle.align_measure.specs.Residuals.{residual_word, tile_residual, tile_residuals}
pub use Rattle.stacker.specs.Calls.{Aligned, Merged, Ran, no_sums}
unfoldable pub use Rattle.stacker.specs.Calls.{answered}
pub use Rattle.stacker.specs.declared.Alignment.{Alignment}
