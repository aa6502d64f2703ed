-- The words of other crates that this crate's files share. Lemmas are not passed on: of those the `use` line says where they are.
pub use Rattle.std.specs.Prelude.{◌%◌, ◌*◌, ◌*ℤ◌, ◌+◌, ◌-◌, ◌/◌, ◌<◌, ◌≡◌, ◌≤◌}
pub use Rattle.algebra.specs.Prelude.{List, ℕ, ℤ, ap, arith, get_or, length, lit<, nat_abs, rules, pos, refl, subst, sym, ◌∙◌}
pub use Rattle.geometry.specs.Fits.{Allowed, AllowedSize, TileSide}
unfoldable pub use Rattle.recipe.specs.Merged.{merged, output_at, plane_output, word_at}
pub use Rattle.recipe.specs.Scene.{Scene, scene_of}
unfoldable pub use Rattle.recipe.specs.Scene.{scene_at}
pub use Rattle.recipe.specs.declared.Merge.{Merge}
pub use Rattle.merge_tiles.specs.Accepted.{Accepted}
pub use Rattle.merge_tiles.specs.Rows.{Stored, row_word, slot_of}
unfoldable pub use Rattle.merge_tiles.specs.Rows.{row_words}
pub use Rattle.merge_tiles.specs.Sum.{taken_most}
unfoldable pub use Rattle.merge_tiles.specs.Sum.{taken_in}
