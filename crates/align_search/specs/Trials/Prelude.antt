-- The words of other crates that this crate's files share. Lemmas are not passed on: of those the `use` line says where they are.
pub use Rattle.std.specs.Prelude.{◌*◌, ◌+◌, ◌-◌, ◌<◌, ◌≡◌, ◌≤◌}
pub use Rattle.algebra.specs.Prelude.{Bool, List, T, ℕ, ap, ap₂, arith, cond, false, leb, lit<, rules, refl, subst, suc, sym, true, zero, ◌∙◌}
unfoldable pub use Rattle.algebra.specs.Sums.{sum_n}
pub use Rattle.align_residual.specs.Local.{Compared, square_row}
pub use Rattle.align_residual.specs.Magnitudes.{pair_most, squared_row_most}
