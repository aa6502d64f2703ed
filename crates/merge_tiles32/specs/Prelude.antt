-- The words of other crates that this crate's files share. Lemmas are not passed on: of those the `use` line says where they are.
pub use Rattle.std.specs.Prelude.{◌*◌, ◌*ℤ◌, ◌+◌, ◌-ℤ◌, ◌/◌, ◌<◌, ◌^◌, ◌≡◌, ◌≤◌}
pub use Rattle.algebra.specs.Prelude.{ℕ, ℤ, arith, length, lit<, lit≤, nat_abs, refl, subst, sym}
unfoldable pub use Rattle.recipe.specs.Scene.{scene_at}
unfoldable pub use Rattle.recipe.specs.Tables32.{side32}
pub use Rattle.tile_spectrum.specs.Magnitudes.{long_noise_most}
pub use Rattle.merge_tiles.specs.Rows.{Stored}
unfoldable pub use Rattle.merge_tiles.specs.Rows.{row_words}
