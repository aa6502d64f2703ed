-- The words of other crates that this crate's files share. Lemmas are not passed on: of those the `use` line says where they are.
pub use Rattle.algebra.specs.Prelude.{List, ℕ, ℤ, [], ap, ap₂, arith, false, get_or, length, lit<, lit≤, ltb, pos, refl, subst, suc, sym, zero, ◌∙◌}
pub use Rattle.std.specs.Prelude.{replicate, ◌%◌, ◌*◌, ◌++◌, ◌+◌, ◌/◌, ◌<◌, ◌∷◌, ◌≡◌, ◌≤◌}
unfoldable pub use Rattle.sequences.specs.Clear.{zeros}
unfoldable pub use Rattle.refusals.specs.Some.{some}
unfoldable pub use Rattle.refusals.specs.Tests.{first}
unfoldable pub use Rattle.geometry.specs.Read.{sample_at, sample_index}
pub use Rattle.geometry.specs.Shape.{shaped}
unfoldable pub use Rattle.geometry.specs.Shape.{count_allowed, count_refusal, length_refusal, output_length, reference_refusal, row_allowed, row_refusal, sample_length, side_allowed, side_refusal, size_allowed, size_refusal, vector_length, work_length}
unfoldable pub use Rattle.admit_length.specs.Order.{align_lengths, align_shape_tests, burst_tests, frame_tests, merge_lengths, merge_shape_tests, shape_tests}
unfoldable pub use Rattle.admit_value.specs.Bounds.{sample_refusal, vector_refusal}
unfoldable pub use Rattle.noise.specs.Levels.{above_limits, black_refusal, invalid_curve, invalid_iso, invalid_noise, level_refusal, levels_of, noise_tests, spatial_refusal, strength_refusal}
pub use Rattle.sanity.specs.FlatFigure.{burst, shape}
unfoldable pub use Rattle.sanity.specs.FlatFigure.{plain}
