-- The words of other crates that this crate's files share. Lemmas are not passed on: of those the `use` line says where they are.
pub use Rattle.std.specs.Prelude.{◌%◌, ◌*◌, ◌*ℤ◌, ◌+◌, ◌+ℤ◌, ◌-◌, ◌-ℤ◌, ◌/◌, ◌<◌, ◌≤◌, ◌∷◌, ◌≡◌}
pub use Rattle.algebra.specs.Prelude.{List, ℕ, ℤ, [], ap, ap₂, arith, get_or, lit<, lit≤, nat_abs, rules, of_z, pos, refl, SFits, to_z, to_z-of_z, w16, w32, ◌∙◌}
unfoldable pub use Rattle.algebra.specs.Sums.{sum_z}
unfoldable pub use Rattle.sequences.specs.Tab.{tab}
unfoldable pub use Rattle.recipe.specs.Tables.{cosine16, cosines, side16}
unfoldable pub use Rattle.recipe.specs.Tables32.{cosine32, cosines32, side32}
pub use Rattle.tile_spectrum.specs.Lines.Fold.{difference_of, sum_of}
unfoldable pub use Rattle.tile_spectrum.specs.Lines.Fold.{folded_of}
pub use Rattle.tile_spectrum.specs.Lines.Halfcomplex.{halfcomplex_of}
unfoldable pub use Rattle.tile_spectrum.specs.Lines.Halfcomplex.{basis_of, frequency_of, phase_of}
pub use Rattle.tile_spectrum.specs.Lines.Held.{of}
pub use Rattle.tile_spectrum.specs.Lines.Magnitudes.{difference_fold_most, difference_most, fold_again_most}
