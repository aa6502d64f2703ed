-- The words of other crates that this crate's files share. Lemmas are not passed on: of those the `use` line says where they are.
pub use Rattle.algebra.specs.Prelude.{Bool, List, ℕ, ℤ, [], ap, arith, cond, false, get_or, lit≤, ltb, rules, not, pos, refl, subst, suc, sym, true, w64, zero, ◌∙◌}
pub use Rattle.std.proofs.Common.{leb→le}
pub use Rattle.std.specs.Prelude.{Float, ◌%◌, ◌&&◌, ◌*◌, ◌+◌, ◌-◌, ◌/◌, ◌<◌, ◌^◌, ◌||◌, ◌∷◌, ◌≡◌, ◌≤◌}
pub use Rattle.std.specs.Float.{binary64, fin, inf, nan}
pub use Rattle.std.specs.Float.Ieee.{down, fits, nearest, odd, size, to_bits, up}
unfoldable pub use Rattle.std.specs.Float.Ieee.{div, eq, le, lt, mul, of_bits, of_fields, of_int, round, units}
unfoldable pub use Rattle.sequences.specs.Grid.{grid}
unfoldable pub use Rattle.sequences.specs.Tab.{tab}
pub use Rattle.refusals.specs.Tests.{first, refuse}
unfoldable pub use Rattle.recipe.specs.NoiseNumber.{noise_number, variance}
unfoldable pub use Rattle.recipe.specs.SpatialNoise.{distance, frequency, spatial_number}
unfoldable pub use Rattle.recipe.specs.Tables.{side16}
unfoldable pub use Rattle.recipe.specs.Tables32.{side32}
