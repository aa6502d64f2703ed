-- The words of other crates that this crate's files share. Lemmas are not passed on: of those the `use` line says where they are.
pub use Rattle.std.specs.Prelude.{◌%◌, ◌*◌, ◌*ℤ◌, ◌+◌, ◌/◌, ◌<◌, ◌≡◌, ◌≤◌}
pub use Rattle.algebra.specs.Prelude.{Bool, List, ℕ, ℤ, ap, ap₂, arith, get_or, length, lit≤, nat_abs, rules, pos, refl, subst, suc, sym, true, zero, ◌∙◌}
pub use Rattle.geometry.specs.Fits.{TileSide}
pub use Rattle.geometry.specs.Tiles.{Level, Step, finest_level, finest_step, level1, level2, level3, neighbour, origin, own, step2to1, step3to2}
unfoldable pub use Rattle.geometry.specs.Tiles.{capped}
pub use Rattle.geometry.specs.Vectors.{VectorField}
pub use Rattle.geometry.specs.declared.vectors.Vector.{Vector}
pub use Rattle.align_residual.specs.Residual.{Pair}
pub use Rattle.align_residual.specs.declared.Tile.{Tile}
pub use Rattle.align_search.specs.Local.{Kind}
pub use Rattle.align_search.specs.Rows.{search_rows}
unfoldable pub use Rattle.align_search.specs.Rows.{candidate_rows}
pub use Rattle.align_search.specs.Search.{best_vector, guessed}
pub use Rattle.align_search.specs.Vectors.{still, ◌times◌}
pub use Rattle.align_tile.specs.Stored.{Placed, Ready, Roomy, Stored, answer, pair_in}
pub use Rattle.align_tile.specs.declared.Found.{Found}
