-- The words of other crates that this crate's files share. Lemmas are not passed on: of those the `use` line says where they are.
pub use Rattle.algebra.specs.Prelude.{Bool, List, ℕ, ℤ, [], ap, ap₂, arith, cond, eqb, false, get_or, length, lit<, lit≤, nat_abs, rules, of_z, pos, refl, set, subst, sym, to_z, true, w16, w32, w64, ◌∙◌}
pub use Rattle.std.specs.Prelude.{Float, ◌%◌, ◌*◌, ◌+◌, ◌+ℤ◌, ◌-◌, ◌-ℤ◌, ◌/◌, ◌<◌, ◌^◌, ◌≡◌, ◌≤◌}
pub use Rattle.std.specs.Float.{binary64, nan}
pub use Rattle.std.specs.Float.Ieee.{of_int}
unfoldable pub use Rattle.std.specs.Float.Ieee.{of_bits}
pub use Rattle.algebra.specs.Bound.{AtMost}
unfoldable pub use Rattle.algebra.specs.Nearest.{away}
unfoldable pub use Rattle.sequences.specs.Grid.{cell, grid}
unfoldable pub use Rattle.sequences.specs.Tab.{tab}
pub use Rattle.floats.specs.Middle.{middle_bits}
unfoldable pub use Rattle.floats.specs.Middle.{middle}
unfoldable pub use Rattle.recipe.specs.Tables.{side16}
pub use Rattle.tile_spectrum.specs.Lines.Doubles.{WholeDouble, WholeRow, double_line}
pub use Rattle.tile_spectrum.specs.Lines.Halfcomplex.{backward, half_sum, halfcomplex}
pub use Rattle.tile_spectrum.specs.Lines.Lines.{LineMost, TileMost}
pub use Rattle.tile_spectrum.specs.Lines.Magnitudes.{column_most, difference_most, fold_most, half_most, pair_line_most, part_most}
pub use Rattle.tile_spectrum.specs.Pairs.{Binned, BinnedPair, GainsOf, InDouble, InverseAdded, Paired, added, by_columns, correction_in, either, pair_gains, plane_bins, plane_in, side_by_side}
unfoldable pub use Rattle.tile_spectrum.specs.Pairs.{doubles}
pub use Rattle.tile_spectrum.specs.Spectrum.{back_sum, gain_im, gain_re, spread, transposed, two_way}
unfoldable pub use Rattle.tile_spectrum.specs.Spectrum.{gain_im_of, gain_re_of}
