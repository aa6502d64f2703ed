-- The words of other crates that this crate's files share. Lemmas are not passed on: of those the `use` line says where they are.
pub use Rattle.algebra.specs.Prelude.{Bool, List, ℕ, ℤ, [], ap, ap₂, arith, cond, false, get_or, length, ltb, nat_abs, rules, of_z, pos, refl, set, suc, sym, to_z, true, w64, zero, ◌∙◌}
pub use Rattle.std.specs.Prelude.{Float, ◌%◌, ◌*◌, ◌*ℤ◌, ◌+◌, ◌+ℤ◌, ◌-◌, ◌-ℤ◌, ◌/◌, ◌<◌, ◌^◌, ◌∷◌, ◌≡◌, ◌≤◌}
pub use Rattle.std.specs.Float.Ieee.{add, sub, to_signed}
pub use Rattle.std.specs.Float.{binary64, nan}
unfoldable pub use Rattle.std.specs.Float.Ieee.{of_bits, of_int}
unfoldable pub use Rattle.algebra.specs.Sums.{sum_z}
unfoldable pub use Rattle.sequences.specs.Tab.{tab}
unfoldable pub use Rattle.recipe.specs.Tables.{cosine16, cosines, side16}
pub use Rattle.tile_spectrum.specs.Lines.Doubles.{From, HalvesOf, WholeDouble, WholeRow, double_line, joined_at, joined_by}
pub use Rattle.tile_spectrum.specs.Lines.Fold.{even_half, even_sum, odd_sum}
unfoldable pub use Rattle.tile_spectrum.specs.Lines.Fold.{even_half_of, even_sum_of, odd_sum_of}
pub use Rattle.tile_spectrum.specs.Lines.Halfcomplex.{backward, basis, half_sum}
unfoldable pub use Rattle.tile_spectrum.specs.Lines.Halfcomplex.{basis_of, frequency_of, half_basis_of, half_z, phase_of}
pub use Rattle.tile_spectrum.specs.Lines.Magnitudes.{column_most, fold_most}
