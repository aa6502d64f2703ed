-- The words of other crates that this crate's files share. Lemmas are not passed on: of those the `use` line says where they are.
pub use Rattle.algebra.specs.Prelude.{Bool, List, T, ℕ, ℤ, [], ap, ap₂, arith, cond, eqb, false, get_or, length, lit<, lit≤, ltb, nat_abs, rules, negsuc, neg_ℤ, of_z, pos, refl, subst, suc, sym, to_z, true, w64, zero, ◌∙◌}
pub use Rattle.std.specs.Prelude.{Float, ◌≤ℤ◌, ◌%◌, ◌*◌, ◌*ℤ◌, ◌+◌, ◌+ℤ◌, ◌-◌, ◌-ℤ◌, ◌/◌, ◌<◌, ◌^◌, ◌∷◌, ◌≡◌, ◌≤◌}
pub use Rattle.std.specs.Float.{binary64, nan}
pub use Rattle.std.specs.Float.Ieee.{of_bits, of_int, to_signed}
pub use Rattle.std.specs.Int.Signed.{shr_z}
pub use Rattle.algebra.specs.Bound.{AtMost}
pub use Rattle.algebra.specs.Clamp.{max_z, min_z}
pub use Rattle.algebra.specs.Nearest.{away}
pub use Rattle.algebra.specs.Ring.{#◌, ring, var, ⊖◌, ◌⊞◌, ◌⊟◌, ◌⊠◌}
unfoldable pub use Rattle.algebra.specs.Sums.{sum_n, sum_z}
unfoldable pub use Rattle.sequences.specs.Grid.{cell, grid}
unfoldable pub use Rattle.sequences.specs.Tab.{tab}
pub use Rattle.recipe.specs.Correction.{bin_im, bin_re, correction_at, quantized}
unfoldable pub use Rattle.recipe.specs.Correction.{filtered, inverse_re, twiddle_im, twiddle_re}
pub use Rattle.recipe.specs.Side.{Side}
unfoldable pub use Rattle.recipe.specs.Side.{cos_at, sin_at}
unfoldable pub use Rattle.recipe.specs.Tables.{cosine16, cosines, side16, sine16}
pub use Rattle.tile_spectrum.specs.Lines.Doubles.{WholeDouble, WholeRow}
pub use Rattle.tile_spectrum.specs.Lines.Halfcomplex.{backward, half_basis_of, half_sum}
unfoldable pub use Rattle.tile_spectrum.specs.Lines.Halfcomplex.{half_sum_of}
pub use Rattle.tile_spectrum.specs.Lines.Lines.{LineMost, TileMost}
pub use Rattle.tile_spectrum.specs.Lines.Magnitudes.{column_most, difference_most, fold_most, half_most}
pub use Rattle.tile_spectrum.specs.Magnitudes.{correction_most, noise_most, root_most, small_most}
pub use Rattle.tile_spectrum.specs.Pairs.{InDouble, Paired, either, plane_in, side_by_side}
unfoldable pub use Rattle.tile_spectrum.specs.Pairs.{doubles}
pub use Rattle.tile_spectrum.specs.Spectrum.{Mirrored, apart, beside, counted, fold_im, fold_re, gain_im, gain_re, imaginary_of, real_of, spread, tile_im, tile_re, transposed, two_way}
unfoldable pub use Rattle.tile_spectrum.specs.Spectrum.{apart_of, back_sum_of, beside_of, counted_of, fold_im_of, fold_re_of, gain_im_of, gain_re_of, imaginary_part, real_part, spread_of, tile_im_of, tile_re_of}
pub use Rattle.tile_spatial.specs.Steps.{copy_place_most, lines_in}
unfoldable pub use Rattle.range.specs.Range.{end_re, greatest_at, least_at}
