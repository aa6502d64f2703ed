-- The words of other crates that this crate's files share. Lemmas are not passed on: of those the `use` line says where they are.
pub use Rattle.algebra.specs.Prelude.{Bool, List, SFits, ℕ, ℤ, [], ap, ap₂, arith, cond, eqb, false, get_or, length, lit<, lit≤, ltb, nat_abs, rules, neg_ℤ, of_z, pos, refl, subst, sym, to_z, true, w32, w64, ◌∙◌}
pub use Rattle.std.specs.Prelude.{Float, ◌%◌, ◌*◌, ◌*ℤ◌, ◌+◌, ◌+ℤ◌, ◌-◌, ◌-ℤ◌, ◌/◌, ◌<◌, ◌^◌, ◌∷◌, ◌≡◌, ◌≤◌}
pub use Rattle.std.specs.Float.{binary64, nan}
pub use Rattle.std.specs.Float.Ieee.{in_float, of_bits, of_int, to_signed}
pub use Rattle.algebra.specs.Bound.{AtMost}
pub use Rattle.algebra.specs.Nearest.{away}
unfoldable pub use Rattle.sequences.specs.Grid.{cell, grid}
unfoldable pub use Rattle.sequences.specs.Tab.{tab}
pub use Rattle.recipe.specs.Correction.{bin_im, bin_re, twiddle_im, twiddle_re, wiener}
unfoldable pub use Rattle.recipe.specs.Correction.{inverse_at, inverse_re}
unfoldable pub use Rattle.recipe.specs.Spatial.{copy_filtered, copy_quantized}
unfoldable pub use Rattle.recipe.specs.SpatialNoise.{frequency}
unfoldable pub use Rattle.recipe.specs.Tables.{side16}
pub use Rattle.tile_spectrum.specs.Lines.Lines.{LineMost, TileMost}
pub use Rattle.tile_spectrum.specs.Lines.Magnitudes.{difference_most, fold_most}
pub use Rattle.tile_spectrum.specs.Magnitudes.{copy_bin_most, copy_most, small_most, spatial_correction_most, spatial_gain_most, spatial_most}
pub use Rattle.tile_spectrum.specs.Pairs.{InDouble, Paired, added, either, plane_in, side_by_side}
unfoldable pub use Rattle.tile_spectrum.specs.Pairs.{doubles}
pub use Rattle.tile_spectrum.specs.Spectrum.{back_sum, beside, fold_im, fold_re, imaginary_of, real_of, spread, tile_im, tile_re, transposed, two_way}
unfoldable pub use Rattle.tile_spectrum.specs.Spectrum.{apart_of, beside_of, fold_im_of, fold_re_of, imaginary_part, real_part, spread_of, tile_im_of, tile_re_of, two_way_of}
