-- The words of other crates that this crate's files share. Lemmas are not passed on: of those the `use` line says where they are.
pub use Rattle.std.specs.Prelude.{◌%◌, ◌&&◌, ◌*◌, ◌++◌, ◌+◌, ◌-◌, ◌<◌, ◌∷◌, ◌≡◌, ◌≤◌}
pub use Rattle.algebra.specs.Prelude.{Bool, List, ℕ, [], ap, ap₂, arith, cond, eqb, leb, rules, not, refl, ◌∙◌}
pub use Rattle.refusals.specs.Tests.{first, refuse}
pub use Rattle.geometry.specs.Fits.{AlignFits, Allowed, BurstFits, MergeFits, TileSide}
pub use Rattle.geometry.specs.Shape.{count_refusal, reference_refusal, row_refusal, shaped, side_refusal, size_refusal}
unfoldable pub use Rattle.geometry.specs.Shape.{length_refusal, output_length, sample_length, vector_length, work_length}
pub use Rattle.geometry.specs.Tiles.{frame_parts, tile_columns, tile_rows}
pub use Rattle.geometry.specs.declared.Shape.{Shape}
