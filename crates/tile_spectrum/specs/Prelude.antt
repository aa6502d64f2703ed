-- The words of other crates that this crate's files share. Lemmas are not passed on: of those the `use` line says where they are.
pub use Rattle.std.specs.Prelude.{◌%◌, ◌*◌, ◌*ℤ◌, ◌+◌, ◌+ℤ◌, ◌-◌, ◌-ℤ◌, ◌/◌, ◌<◌, ◌^◌, ◌∷◌, ◌≡◌, ◌≤◌}
pub use Rattle.algebra.specs.Prelude.{Bool, List, T, ℕ, ℤ, [], ap, ap₂, arith, cond, eqb, false, get_or, leb, lit<, lit≤, ltb, nat_abs, neg_ℤ, pos, refl, subst, suc, sym, true, zero, ◌∙◌}
pub use Rattle.algebra.specs.Nearest.{upward}
unfoldable pub use Rattle.algebra.specs.Nearest.{away}
pub use Rattle.algebra.specs.Ring.{#◌, ring, var, ⊖◌, ◌⊞◌, ◌⊟◌, ◌⊠◌}
pub use Rattle.algebra.specs.Sums.{sum_n}
unfoldable pub use Rattle.algebra.specs.Sums.{sum_z}
pub use Rattle.algebra.specs.Vars.{vars4, vars5}
unfoldable pub use Rattle.sequences.specs.Tab.{tab}
pub use Rattle.recipe.specs.Correction.{power}
unfoldable pub use Rattle.recipe.specs.Correction.{bin_im, bin_re, correction_at, filtered, inverse_at, inverse_re, quantized, row_im, row_re, twiddle_im, twiddle_re, wiener}
pub use Rattle.recipe.specs.Side.{Side}
unfoldable pub use Rattle.recipe.specs.Side.{cos_at, sin_at}
pub use Rattle.recipe.specs.TableRules.{Rules, opposite_of}
unfoldable pub use Rattle.recipe.specs.Tables.{cosine16, cosines, side16, sine16}
unfoldable pub use Rattle.recipe.specs.Tables32.{cosine32, cosines32, side32, sine32}
pub use Rattle.tile_spectrum.specs.Lines.Halfcomplex.{backward, basis, half_sum_of, halfcomplex}
unfoldable pub use Rattle.tile_spectrum.specs.Lines.Halfcomplex.{backward_of, basis_of, frequency_of, half_z, halfcomplex_of, phase_of}
pub use Rattle.tile_spectrum.specs.Lines.Magnitudes.{difference_most}
