-- The words of other crates that this crate's files share. Lemmas are not passed on: of those the `use` line says where they are.
pub use Rattle.std.specs.Prelude.{◌%◌, ◌*◌, ◌+◌, ◌-◌, ◌/◌, ◌<◌, ◌||◌, ◌∷◌, ◌≡◌, ◌≤◌}
pub use Rattle.algebra.specs.Prelude.{Bool, List, ℕ, [], ap, ap₂, arith, cond, eqb, false, get_or, length, ltb, rules, not, refl, suc, sym, true, zero, ◌∙◌}
unfoldable pub use Rattle.refusals.specs.Some.{some}
pub use Rattle.refusals.specs.Tests.{refuse, ◌before◌}
unfoldable pub use Rattle.refusals.specs.Tests.{first}
pub use Rattle.geometry.specs.declared.Shape.{Shape}
pub use Rattle.file_dng.specs.Tiff.Directory.{directory_outside, entries, header_wrong, times_of}
pub use Rattle.file_dng.specs.declared.tiff.Entry.{Entry}
