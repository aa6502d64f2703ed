-- The words of other crates that this crate's files share. Lemmas are not passed on: of those the `use` line says where they are.
pub use Rattle.algebra.specs.Prelude.{Bool, List, T, ℕ, ℤ, [], ap, ap₂, arith, false, get_or, lit<, lit≤, nat_abs, rules, of_z, pos, refl, subst, sym, to_z, true, w64, ◌∙◌}
pub use Rattle.std.specs.Prelude.{Float, ◌*◌, ◌*ℤ◌, ◌+◌, ◌+ℤ◌, ◌/◌, ◌<◌, ◌^◌, ◌∷◌, ◌≡◌, ◌≤◌}
pub use Rattle.std.specs.Float.Ieee.{add, div, in_float, in_signed, mul, sub, to_signed, unlike}
pub use Rattle.std.specs.Float.{binary64, nan}
unfoldable pub use Rattle.std.specs.Float.Ieee.{of_bits, of_int}
pub use Rattle.algebra.specs.Bound.{AtMost}
pub use Rattle.algebra.specs.Nearest.{away}
unfoldable pub use Rattle.floats.specs.Middle.{middle}
pub use Rattle.recipe.specs.Correction.{power}
unfoldable pub use Rattle.recipe.specs.Correction.{filtered, quantized, wiener}
unfoldable pub use Rattle.recipe.specs.Spatial.{copy_filtered, copy_quantized}
unfoldable pub use Rattle.recipe.specs.Tables.{side16}
pub use Rattle.tile_spectrum.specs.Magnitudes.{bin_most, copy_bin_most, copy_part_most, gain_most, long_bin_most, noise_most, spatial_gain_most, spatial_most}
