-- The words of other crates that this crate's files share. Lemmas are not passed on: of those the `use` line says where they are.
pub use Rattle.std.specs.Prelude.{◌%◌, ◌*◌, ◌+◌, ◌-◌, ◌/◌, ◌<◌, ◌≡◌, ◌≤◌}
pub use Rattle.algebra.specs.Prelude.{List, ℕ, ℤ, ap, ap₂, arith, length, lit≤, nat_abs, rules, refl, set, subst, suc, sym, zero, ◌∙◌}
pub use Rattle.geometry.specs.Tiles.{Level, Step, finest_level, finest_step, level3}
pub use Rattle.geometry.specs.Vectors.{VectorField, numbered, word}
pub use Rattle.align_search.specs.Rows.{candidate_rows, search_rows}
pub use Rattle.align_tile.specs.Stored.{Stored}
unfoldable pub use Rattle.align_tile.specs.Stored.{pair_in}
pub use Rattle.align_level.specs.Fields.{coarsest, from_coarse, level_at, level_tile}
unfoldable pub use Rattle.align_level.specs.Fields.{finer}
pub use Rattle.align_level.specs.Grids.{Led, Vectors, answer_at, finer_answer, guess_from}
unfoldable pub use Rattle.align_level.specs.Grids.{field_at}
pub use Rattle.align_level.specs.Magnitudes.{found_most, tile_rows_most}
