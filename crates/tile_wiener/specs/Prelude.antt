-- The words of other crates that this crate's files share. Lemmas are not passed on: of those the `use` line says where they are.
pub use Rattle.algebra.specs.Prelude.{Bool, List, ℕ, ℤ, [], ap, arith, false, get_or, lit<, lit≤, ltb, rules, not, pos, refl, set, subst, suc, sym, true, zero, ◌∙◌}
pub use Rattle.std.specs.Prelude.{Float, ◌%◌, ◌*◌, ◌+◌, ◌-◌, ◌/◌, ◌<◌, ◌∷◌, ◌≡◌, ◌≤◌}
pub use Rattle.std.specs.Float.Ieee.{add, sub}
pub use Rattle.std.specs.Float.{binary64, nan}
unfoldable pub use Rattle.std.specs.Float.Ieee.{of_bits, of_int}
pub use Rattle.sequences.specs.Grid.{cell}
pub use Rattle.tile_spectrum.specs.Pairs.{PairedOf, either}
pub use Rattle.tile_bin.specs.Doubles.{bits_of, SureBy, gains_by, real_gain_by}
pub use Rattle.tile_quad.specs.Lanes.{Lanes, number_of, place, quad_at, quad_in}
pub use Rattle.tile_quad.specs.AtSide.{GainsAt, IsPair, noise_most_at}
unfoldable pub use Rattle.tile_quad.specs.Lanes.{bins_in, corner_in, fold_in, folded_in}
