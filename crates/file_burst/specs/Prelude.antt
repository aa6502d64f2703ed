-- The words of other crates that this crate's files share. Lemmas are not passed on: of those the `use` line says where they are.
pub use Rattle.std.specs.Prelude.{ℕ, suc, zero, ◌*◌, ◌+◌, ◌-◌, ◌<◌, ◌≤◌, drop, get_or, length, Bool, cond, false, true, ◌||◌, List, [], ◌++◌, ◌∷◌, refl, ◌≡◌}
pub use Rattle.std.proofs.Common.{rules, ap, sym, ◌∙◌, arith}
pub use Rattle.std.proofs.lemmas.Bool.{false≢true}
pub use Rattle.refusals.specs.Tests.{refuse}
pub use Rattle.geometry.specs.Fits.{Allowed, ValuesFit}
unfoldable pub use Rattle.geometry.specs.Shape.{length_refusal, sample_length}
pub use Rattle.geometry.specs.declared.Shape.{Shape}
pub use Rattle.file_burst.specs.Lines.Line.{item_of, value_line}
unfoldable pub use Rattle.file_burst.specs.Lines.Line.{above}
pub use Rattle.file_burst.specs.Lines.Part.{Part, found, mapped, number_of, refused, unless, ◌then◌}
pub use Rattle.file_burst.specs.Lines.Scan.{judged, line_in, rest_in, value_in}
unfoldable pub use Rattle.file_burst.specs.Lines.Scan.{next_values}
pub use Rattle.file_burst.specs.Head.Head.{head_in, head_of}
unfoldable pub use Rattle.file_burst.specs.Head.Head.{header_refusal}
pub use Rattle.file_burst.specs.declared.head.Head.{Head}
pub use Rattle.file_burst.specs.declared.head.Header.{Header}
