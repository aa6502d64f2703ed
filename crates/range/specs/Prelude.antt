-- The words of other crates that this crate's files share. Lemmas are not passed on: of those the `use` line says where they are.
pub use Rattle.algebra.specs.Prelude.{Bool, List, T, ℕ, ℤ, [], ap, ap₂, arith, false, get_or, lit<, nat_abs, negsuc, neg_ℤ, not, pos, refl, subst, suc, sym, true, zero, ◌∙◌}
pub use Rattle.std.specs.Prelude.{Float, ◌<ℤ◌, ◌≤ℤ◌, ◌%◌, ◌&&◌, ◌*◌, ◌*ℤ◌, ◌+◌, ◌+ℤ◌, ◌-ℤ◌, ◌/◌, ◌<◌, ◌||◌, ◌∷◌, ◌≡◌, ◌≤◌}
pub use Rattle.std.specs.Float.Ieee.{below, down, level, up}
pub use Rattle.std.specs.Float.{fin, inf, nan}
unfoldable pub use Rattle.std.specs.Float.Ieee.{eq, le, lt}
pub use Rattle.std.specs.Int.Signed.{shr_z}
pub use Rattle.algebra.specs.Clamp.{clamp_z, max_z, min_z}
unfoldable pub use Rattle.algebra.specs.Nearest.{away, upward}
pub use Rattle.refusals.specs.Tests.{refuse}
unfoldable pub use Rattle.refusals.specs.Tests.{first}
pub use Rattle.recipe.specs.Scene.{Scene, difference_over, noise_over, scene_of}
unfoldable pub use Rattle.recipe.specs.Scene.{other_tile, reference_tile, scene_at, tile_difference, tile_noise}
pub use Rattle.recipe.specs.Side.{Side}
