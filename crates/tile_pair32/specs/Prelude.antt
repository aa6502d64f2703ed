-- The words of other crates that this crate's files share. Lemmas are not passed on: of those the `use` line says where they are.
pub use Rattle.algebra.specs.Prelude.{Bool, List, ℕ, ℤ, [], ap, ap₂, arith, cond, eqb, false, get_or, length, lit<, lit≤, nat_abs, rules, of_z, pos, refl, set, subst, sym, to_z, true, w16, w32, w64, ◌∙◌}
pub use Rattle.std.specs.Prelude.{Float, ◌%◌, ◌*◌, ◌+◌, ◌+ℤ◌, ◌-◌, ◌-ℤ◌, ◌/◌, ◌<◌, ◌^◌, ◌≡◌, ◌≤◌}
pub use Rattle.std.specs.Float.Ieee.{add, is_nan, to_bits}
pub use Rattle.std.specs.Float.{binary64, nan}
unfoldable pub use Rattle.std.specs.Float.Ieee.{of_bits, of_int}
pub use Rattle.algebra.specs.Bound.{AtMost}
unfoldable pub use Rattle.algebra.specs.Nearest.{away}
unfoldable pub use Rattle.sequences.specs.Grid.{cell, grid}
unfoldable pub use Rattle.sequences.specs.Tab.{tab}
pub use Rattle.floats.specs.Middle.{middle_bits}
unfoldable pub use Rattle.floats.specs.Middle.{middle}
unfoldable pub use Rattle.recipe.specs.Tables32.{side32}
pub use Rattle.tile_spectrum.specs.Lines.Doubles.{WholeDouble, WholeLine, double_line}
pub use Rattle.tile_spectrum.specs.Lines.Halfcomplex.{backward_of, half_sum_of, halfcomplex_of}
pub use Rattle.tile_spectrum.specs.Lines.Lines.{LineMost, TileMost}
pub use Rattle.tile_spectrum.specs.Lines.Magnitudes.{difference_most, long_column_most, long_fold_most, long_half_most, long_line_most, long_part_most}
pub use Rattle.tile_spectrum.specs.LongPairs.{LongBinned, LongBinnedPair, LongInDouble, LongInverseAdded, LongPaired}
unfoldable pub use Rattle.tile_spectrum.specs.LongPairs.{long_doubles}
pub use Rattle.tile_spectrum.specs.Pairs.{added, by_columns, correction_in, either, pair_gains, plane_bins, plane_in, side_by_side}
pub use Rattle.tile_spectrum.specs.Spectrum.{spread_of, transposed, two_way_of}
unfoldable pub use Rattle.tile_spectrum.specs.Spectrum.{back_sum_of, gain_im_of, gain_re_of}
