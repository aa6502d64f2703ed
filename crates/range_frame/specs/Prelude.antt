-- The words of other crates that this crate's files share. Lemmas are not passed on: of those the `use` line says where they are.
pub use Rattle.std.specs.Prelude.{◌%◌, ◌*◌, ◌*ℤ◌, ◌+◌, ◌-◌, ◌-ℤ◌, ◌/◌, ◌<◌, ◌≡◌, ◌≤◌}
pub use Rattle.algebra.specs.Prelude.{List, ℕ, ℤ, ap, ap₂, arith, drop, get_or, length, lit<, nat_abs, rules, pos, refl, subst, suc, sym, take, ◌∙◌}
pub use Rattle.geometry.specs.Shape.{work_length}
unfoldable pub use Rattle.geometry.specs.Shape.{output_length}
pub use Rattle.recipe.specs.Scene.{Scene, difference_over, noise_over, scene_of, tile_difference, tile_noise}
unfoldable pub use Rattle.recipe.specs.Scene.{scene_at}
unfoldable pub use Rattle.recipe.specs.Tables.{side16}
pub use Rattle.recipe.specs.declared.Merge.{Merge}
pub use Rattle.range.specs.Frames.{End, high_frame, low_frame}
unfoldable pub use Rattle.range.specs.Frames.{frame_end, plane_end}
pub use Rattle.range.specs.Range.{greatest_at, least_at, sample_from}
unfoldable pub use Rattle.range.specs.Range.{high_sample, low_sample}
pub use Rattle.merge_tiles.specs.Rows.{row_word, slot_of}
unfoldable pub use Rattle.merge_tiles.specs.Rows.{row_words}
pub use Rattle.merge_gather.specs.Ready.{RowReady}
pub use Rattle.merge_gather.specs.RowsHeld.{RowHeld, RowsWritten}
pub use Rattle.merge_gather.specs.Work.{Inside, Over, row_written}
unfoldable pub use Rattle.merge_gather.specs.Work.{row_span, word_from}
pub use Rattle.range_tiles.specs.EndSums.{EndAt, UpperFits, at_noises, raised}
unfoldable pub use Rattle.range_tiles.specs.EndSums.{end_sum, end_taken}
