-- The words of other crates that this crate's files share. Lemmas are not passed on: of those the `use` line says where they are.
pub use Rattle.algebra.specs.Prelude.{Bool, List, T, ℕ, ℤ, [], ap, ap₂, arith, cond, eqb, false, get_or, length, lit≤, ltb, nat_abs, rules, pos, refl, set, subst, suc, sym, true, w64, zero, ◌∙◌}
pub use Rattle.std.specs.Prelude.{Float, ◌%◌, ◌*◌, ◌*ℤ◌, ◌+◌, ◌+ℤ◌, ◌-◌, ◌-ℤ◌, ◌/◌, ◌<◌, ◌^◌, ◌∷◌, ◌≡◌, ◌≤◌}
pub use Rattle.std.specs.Float.Ieee.{add, sub}
pub use Rattle.std.specs.Float.{binary64, nan}
unfoldable pub use Rattle.std.specs.Float.Ieee.{of_bits, of_int}
pub use Rattle.algebra.specs.Forms.{rings, same, sum_e}
pub use Rattle.algebra.specs.Ring.{Expr, con, ◌⊞◌, ◌⊟◌, ◌⊠◌}
unfoldable pub use Rattle.algebra.specs.Sums.{sum_n, sum_z}
unfoldable pub use Rattle.sequences.specs.Tab.{tab}
pub use Rattle.floats.specs.Kernels.{Form, minus, plus, var}
unfoldable pub use Rattle.recipe.specs.Side.{cos_at}
unfoldable pub use Rattle.recipe.specs.Tables32.{cosine32, cosines32, side32}
pub use Rattle.tile_spectrum.specs.Lines.DoubleForms.{picked}
pub use Rattle.tile_spectrum.specs.Lines.Doubles.{From, HalvesOf, WholeDouble, WholeLine, WholeRow, double_line}
unfoldable pub use Rattle.tile_spectrum.specs.Lines.Fold.{odd_sum_of}
pub use Rattle.tile_spectrum.specs.Lines.Halfcomplex.{half_basis_of}
unfoldable pub use Rattle.tile_spectrum.specs.Lines.Halfcomplex.{backward_of, basis_of, frequency_of, half_sum_of, half_z, phase_of}
pub use Rattle.tile_spectrum.specs.Lines.Magnitudes.{column_most, fold_most, long_column_most, long_fold_most}
