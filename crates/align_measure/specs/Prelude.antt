-- The words of other crates that this crate's files share. Lemmas are not passed on: of those the `use` line says where they are.
pub use Rattle.std.specs.Prelude.{◌%◌, ◌*◌, ◌+◌, ◌-◌, ◌/◌, ◌<◌, ◌≡◌, ◌≤◌}
pub use Rattle.algebra.specs.Prelude.{List, ℕ, ℤ, ap, ap₂, arith, false, get_or, length, lit≤, rules, pos, subst, sym, ◌∙◌}
pub use Rattle.sequences.specs.Write.{written}
pub use Rattle.geometry.specs.Fits.{AlignFits, Allowed, SamplesFit, TileSide, VectorsFit}
pub use Rattle.geometry.specs.Read.{Image, sample_at}
pub use Rattle.geometry.specs.Tiles.{finest_level, tile_columns, tile_rows}
pub use Rattle.geometry.specs.Vectors.{other_frame}
unfoldable pub use Rattle.geometry.specs.Vectors.{down_at, right_at, vector_place}
pub use Rattle.geometry.specs.declared.Shape.{Shape}
pub use Rattle.admit_length.specs.Residuals.{frame_tiles}
unfoldable pub use Rattle.admit_length.specs.Residuals.{residual_length}
pub use Rattle.align_pyramid.specs.Layout.{Built, Levels, pyramid_length}
pub use Rattle.align_residual.specs.Residual.{Pair, residual}
pub use Rattle.align_tile.specs.Stored.{Placed, Stored, pair_in}
unfoldable pub use Rattle.align_level.specs.Fields.{level_tile}
unfoldable pub use Rattle.align_burst.specs.Frames.{pairs, residual_of, vectors_of}
