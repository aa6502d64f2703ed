-- The words of other crates that this crate's files share. Lemmas are not passed on: of those the `use` line says where they are.
pub use Rattle.algebra.specs.Prelude.{List, T, ℕ, ℤ, [], ap, ap₂, arith, eqb, get_or, rules, pos, refl, subst, suc, sym, w64, zero, ◌∙◌}
pub use Rattle.std.specs.Prelude.{Float, ◌%◌, ◌*◌, ◌+◌, ◌-◌, ◌/◌, ◌<◌, ◌∷◌, ◌≡◌, ◌≤◌}
pub use Rattle.std.specs.Float.{binary64, nan}
pub use Rattle.std.specs.Float.Ieee.{in_signed, to_signed}
unfoldable pub use Rattle.std.specs.Float.Ieee.{of_bits, of_int}
pub use Rattle.geometry.specs.Fits.{TileSide}
pub use Rattle.sequences.specs.Grid.{cell}
pub use Rattle.tile_spectrum.specs.Magnitudes.{gain_most, noise_most}
pub use Rattle.tile_spectrum.specs.Pairs.{PairedOf, either}
pub use Rattle.tile_bin.specs.Doubles.{bits_of, exact_gains_in, whole_quantized}
unfoldable pub use Rattle.tile_bin.specs.Doubles.{exact_gains_by, whole_quantized_by}
pub use Rattle.tile_quad.specs.AtSide.{BinnedAt, GainsAt, IsPair, bin_most_at, noise_most_at}
pub use Rattle.tile_quad.specs.Lanes.{Lanes, WholeBinsOf, number_of, place, quad_at}
unfoldable pub use Rattle.tile_quad.specs.Lanes.{bins_in, corner_in, fold_in, folded_in, quad_in}
