-- The words of other crates that this crate's files share. Lemmas are not passed on: of those the `use` line says where they are.
pub use Rattle.algebra.specs.Prelude.{List, ℕ, ℤ, [], ap, ap₂, arith, get_or, length, nat_abs, rules, of_z, pos, refl, to_z, w32, ◌∙◌}
pub use Rattle.std.specs.Prelude.{Float, ◌%◌, ◌*◌, ◌+◌, ◌+ℤ◌, ◌-◌, ◌-ℤ◌, ◌/◌, ◌<◌, ◌∷◌, ◌≡◌, ◌≤◌}
pub use Rattle.std.specs.Float.Ieee.{add, sub}
pub use Rattle.std.specs.Float.{binary64}
unfoldable pub use Rattle.std.specs.Float.Ieee.{of_bits, of_int}
unfoldable pub use Rattle.sequences.specs.Tab.{tab}
unfoldable pub use Rattle.recipe.specs.Tables.{cosine16, cosines, side16}
pub use Rattle.tile_spectrum.specs.Lines.Fold.{folded}
unfoldable pub use Rattle.tile_spectrum.specs.Lines.Fold.{folded_of}
pub use Rattle.tile_spectrum.specs.Lines.Halfcomplex.{basis, halfcomplex}
unfoldable pub use Rattle.tile_spectrum.specs.Lines.Halfcomplex.{basis_of, frequency_of, phase_of}
