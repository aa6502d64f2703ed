-- The words of other crates that this crate's files share. Lemmas are not passed on: of those the `use` line says where they are.
pub use Rattle.std.specs.Prelude.{◌%◌, ◌&&◌, ◌*◌, ◌*ℤ◌, ◌+◌, ◌+ℤ◌, ◌-◌, ◌-ℤ◌, ◌/◌, ◌<◌, ◌||◌, ◌∷◌, ◌≡◌, ◌≤◌}
pub use Rattle.algebra.specs.Prelude.{Bool, List, ℕ, ℤ, [], ap, ap₂, arith, cond, false, get_or, leb, length, lit<, lit≤, ltb, nat_abs, rules, pos, refl, subst, suc, sym, true, zero, ◌∙◌}
pub use Rattle.algebra.specs.Sums.{sum_n}
pub use Rattle.sequences.specs.Least.{first_min}
unfoldable pub use Rattle.sequences.specs.Least.{first_by}
unfoldable pub use Rattle.sequences.specs.Tab.{tab}
pub use Rattle.geometry.specs.declared.vectors.Vector.{Vector}
pub use Rattle.align_patch.specs.Bounds.{Within}
pub use Rattle.align_residual.specs.Local.{Low}
unfoldable pub use Rattle.align_residual.specs.Local.{row_sum, square_row, square_sum}
pub use Rattle.align_residual.specs.Magnitudes.{residual_most}
pub use Rattle.align_residual.specs.Residual.{Pair, gap}
unfoldable pub use Rattle.align_residual.specs.Residual.{difference, residual, row_residual}
pub use Rattle.align_residual.specs.declared.Tile.{Tile}
pub use Rattle.align_search.specs.Trials.Trial.{InWindow, Left}
