-- The words of other crates that this crate's files share. Lemmas are not passed on: of those the `use` line says where they are.
pub use Rattle.std.specs.Prelude.{ℕ, ◌+◌, ◌-◌, ◌<◌, ◌≤◌, drop, get_or, length, Bool, cond, false, not, true, List, [], ◌++◌, ◌∷◌, refl, ◌≡◌}
pub use Rattle.std.proofs.Common.{rules, ap, ap₂, sym, ◌∙◌}
pub use Rattle.std.proofs.lemmas.Bool.{false≢true}
pub use Rattle.refusals.specs.Tests.{refuse}
unfoldable pub use Rattle.refusals.specs.Tests.{first}
pub use Rattle.file_burst.specs.Lines.Line.{line_end, value_line}
unfoldable pub use Rattle.file_burst.specs.Lines.Line.{has_lf}
pub use Rattle.file_burst.specs.Lines.Part.{Part, found, refused, unless, ◌then◌}
pub use Rattle.file_burst.specs.Lines.Scan.{judged, line_in}
unfoldable pub use Rattle.file_burst.specs.Lines.Scan.{next_values}
