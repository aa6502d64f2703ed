-- The words of other crates that this crate's files share. Lemmas are not passed on: of those the `use` line says where they are.
pub use Rattle.std.specs.Prelude.{◌%◌, ◌*◌, ◌++◌, ◌+◌, ◌-◌, ◌/◌, ◌<◌, ◌∷◌, ◌≡◌, ◌≤◌}
pub use Rattle.algebra.specs.Prelude.{List, ℕ, ℤ, [], ap, ap₂, arith, drop, get_or, length, rules, pos, refl, subst, suc, sym, take, true, zero, ◌∙◌}
pub use Rattle.sequences.specs.Clear.{zeros}
pub use Rattle.sequences.specs.Tab.{tab}
unfoldable pub use Rattle.refusals.specs.After.{after}
unfoldable pub use Rattle.refusals.specs.Tests.{first}
pub use Rattle.geometry.specs.Fits.{Allowed, BurstFits, MergeFits, SamplesFit, TileSide}
pub use Rattle.geometry.specs.Shape.{row_refusal, side_refusal}
unfoldable pub use Rattle.geometry.specs.Shape.{count_allowed, count_refusal, length_refusal, reference_refusal, vector_length, work_length}
pub use Rattle.geometry.specs.declared.Shape.{Shape}
pub use Rattle.admit_length.specs.Bands.{band_shape_tests}
unfoldable pub use Rattle.admit_length.specs.Bands.{band_length, band_work_length}
pub use Rattle.admit_length.specs.Order.{merge_lengths}
unfoldable pub use Rattle.admit_length.specs.Order.{align_lengths, align_shape_tests, burst_tests, merge_shape_tests, shape_tests}
pub use Rattle.recipe.specs.Merged.{word_at}
unfoldable pub use Rattle.recipe.specs.Merged.{merged}
pub use Rattle.recipe.specs.Scene.{Scene, scene_of}
unfoldable pub use Rattle.recipe.specs.Scene.{scene_at}
pub use Rattle.recipe.specs.declared.Merge.{Merge}
pub use Rattle.recipe.specs.declared.Tuning.{Tuning}
pub use Rattle.noise.specs.Levels.{levels_of, noise_tests, read_level, shot_level}
pub use Rattle.noise.specs.declared.Noise.{Noise}
pub use Rattle.admit_call.specs.Admission.{BandTested, RunTested, tested_as}
unfoldable pub use Rattle.admit_call.specs.OneFrame.{align_frame_refusal}
pub use Rattle.admit_call.specs.Refusals.{merge_of, run_refusal, value_tests}
unfoldable pub use Rattle.admit_call.specs.Refusals.{align_refusal, content_tests, merge_refusal, run_tests}
pub use Rattle.admit_call.specs.Admission.{Tested}
pub use Rattle.align_burst.specs.Aligned.{field_of, sum_of}
unfoldable pub use Rattle.align_burst.specs.Aligned.{aligned_vectors, residual_sums}
pub use Rattle.align_burst.specs.Rows.{count_of}
unfoldable pub use Rattle.align_burst.specs.Rows.{rows_summed}
