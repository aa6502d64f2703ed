-- The words of other crates that this crate's files share. Lemmas are not passed on: of those the `use` line says where they are.
pub use Rattle.std.specs.Prelude.{◌%◌, ◌*◌, ◌+◌, ◌+ℤ◌, ◌-◌, ◌/◌, ◌<◌, ◌^◌, ◌≡◌, ◌≤◌}
pub use Rattle.algebra.specs.Prelude.{Bool, List, ℕ, ℤ, ap, arith, cond, false, get_or, length, lit≤, ltb, rules, negsuc, pos, refl, subst, suc, sym, true, zero, ◌∙◌}
pub use Rattle.geometry.specs.Fits.{TileSide}
pub use Rattle.align_patch.specs.Bounds.{Within}
pub use Rattle.align_residual.specs.Local.{Compared, Low, square_sum}
pub use Rattle.align_residual.specs.Residual.{Pair, residual}
pub use Rattle.align_search.specs.Local.{Kind, Searched, Window, window_row}
pub use Rattle.align_search.specs.Vectors.{◌plus◌}
