-- The words of other crates that this crate's files share. Lemmas are not passed on: of those the `use` line says where they are.
pub use Rattle.algebra.specs.Prelude.{Bool, List, T, ℕ, ℤ, [], ap, ap₂, arith, cond, eqb, false, get_or, length, nat_abs, rules, of_z, pos, refl, set, to_z, true, w32, ◌∙◌}
pub use Rattle.std.specs.Prelude.{Float, ◌%◌, ◌*◌, ◌*ℤ◌, ◌+◌, ◌+ℤ◌, ◌-◌, ◌-ℤ◌, ◌/◌, ◌<◌, ◌^◌, ◌∷◌, ◌≡◌, ◌≤◌}
pub use Rattle.std.specs.Float.Ieee.{add, sub}
pub use Rattle.std.specs.Float.{binary64, nan}
unfoldable pub use Rattle.std.specs.Float.Ieee.{of_bits, of_int}
unfoldable pub use Rattle.algebra.specs.Sums.{sum_z}
unfoldable pub use Rattle.sequences.specs.Tab.{tab}
pub use Rattle.floats.specs.Kernels.{Form, minus, plus, var}
unfoldable pub use Rattle.recipe.specs.Side.{cos_at}
unfoldable pub use Rattle.recipe.specs.Tables.{side16}
unfoldable pub use Rattle.recipe.specs.Tables32.{cosine32, cosines32, side32}
pub use Rattle.tile_spectrum.specs.Lines.Doubles.{From, double_line}
pub use Rattle.tile_spectrum.specs.Lines.Fold.{folded}
unfoldable pub use Rattle.tile_spectrum.specs.Lines.Fold.{every_second, folded_of, sum_of}
pub use Rattle.tile_spectrum.specs.Lines.Halfcomplex.{halfcomplex_of}
unfoldable pub use Rattle.tile_spectrum.specs.Lines.Halfcomplex.{basis_of, frequency_of, phase_of}
pub use Rattle.tile_spectrum.specs.Lines.Magnitudes.{long_line_most, long_sum_most, pair_sum_most}
