-- The words of other crates that this crate's files share. Lemmas are not passed on: of those the `use` line says where they are.
pub use Rattle.std.specs.Prelude.{◌%◌, ◌*◌, ◌+◌, ◌-◌, ◌/◌, ◌<◌, ◌∷◌, ◌≡◌}
pub use Rattle.algebra.specs.Prelude.{List, ℤ, [], arith, cond, eqb, get_or, lit<, lit≤, rules, pos, refl, w16, ◌∙◌}
unfoldable pub use Rattle.sequences.specs.Tab.{tab}
unfoldable pub use Rattle.recipe.specs.Tables.{cosine16, cosines, side16}
pub use Rattle.tile_spectrum.specs.Lines.Fold.{difference_at, folded, sum_at}
unfoldable pub use Rattle.tile_spectrum.specs.Lines.Fold.{folded_of}
pub use Rattle.tile_spectrum.specs.Lines.Halfcomplex.{basis, halfcomplex}
unfoldable pub use Rattle.tile_spectrum.specs.Lines.Halfcomplex.{basis_of, frequency_of, phase_of}
pub use Rattle.tile_spectrum.specs.Lines.Held.{of}
pub use Rattle.tile_spectrum.specs.Lines.Magnitudes.{difference_fold_most, difference_most, fold_again_most}
