-- The words of other crates that this crate's files share. Lemmas are not passed on: of those the `use` line says where they are.
pub use Rattle.algebra.specs.Prelude.{Bool, List, T, ℕ, [], ap, arith, cond, eqb, false, get_or, leb, length, ltb, rules, not, pos, refl, subst, suc, sym, true, zero, ◌∙◌}
pub use Rattle.std.specs.Prelude.{Float, ◌%◌, ◌*◌, ◌++◌, ◌+◌, ◌-◌, ◌/◌, ◌<◌, ◌||◌, ◌∷◌, ◌≡◌, ◌≤◌}
pub use Rattle.std.specs.Float.{binary64, fin, inf, nan}
pub use Rattle.std.specs.Float.Ieee.{mul}
unfoldable pub use Rattle.std.specs.Float.Ieee.{div, is_nan, of_bits, of_int}
unfoldable pub use Rattle.refusals.specs.After.{after}
unfoldable pub use Rattle.refusals.specs.Tests.{first}
pub use Rattle.geometry.specs.Shape.{row_stride, sample_length}
unfoldable pub use Rattle.geometry.specs.Shape.{count_allowed, count_refusal, length_refusal, output_length, reference_refusal, row_allowed, row_refusal, size_allowed, size_refusal}
pub use Rattle.geometry.specs.declared.Shape.{Shape}
unfoldable pub use Rattle.admit_length.specs.Order.{frame_tests, shape_tests}
pub use Rattle.file_dng.specs.Tiff.Directory.{directory_start, entries, entry_count, times_of}
unfoldable pub use Rattle.file_dng.specs.Tiff.Directory.{directory_outside, header_wrong}
pub use Rattle.file_dng.specs.Tiff.Fields.{first_field}
unfoldable pub use Rattle.file_dng.specs.Tiff.Fields.{field_outside, value_at}
pub use Rattle.file_dng.specs.declared.tiff.Entry.{Entry}
pub use Rattle.file_dng.specs.Tags.Refusals.{strip_length, strip_start}
unfoldable pub use Rattle.file_dng.specs.Tags.Refusals.{absent, demand_missed, not_once, otherwise, outside, size_differs, strip_outside, tag_tests, value_of, value_outside}
pub use Rattle.file_dng.specs.Tags.Tags.{BlackLevel, ImageLength, ImageWidth, NoiseProfile, StripByteCounts, StripOffsets}
unfoldable pub use Rattle.file_dng.specs.Tags.Tags.{demand_at, demanded, demands, has_black, listed, tag_at, tags}
pub use Rattle.file_dng.specs.Strip.Fits.{FrameFits}
pub use Rattle.file_dng.specs.Strip.Strip.{strip_sample}
unfoldable pub use Rattle.file_dng.specs.Strip.Strip.{filled_rows, strip_refusal}
