-- The words of other crates that this crate's files share. Lemmas are not passed on: of those the `use` line says where they are.
pub use Rattle.std.specs.Prelude.{◌%◌, ◌&&◌, ◌*◌, ◌++◌, ◌+◌, ◌/◌, ◌<◌, ◌∷◌, ◌≡◌, ◌≤◌}
pub use Rattle.algebra.specs.Prelude.{Bool, List, T, ℕ, [], ap, ap₂, arith, cond, drop, eqb, false, get_or, length, ltb, rules, not, refl, suc, sym, take, true, zero, ◌∙◌}
unfoldable pub use Rattle.refusals.specs.After.{after}
pub use Rattle.refusals.specs.Tests.{refuse, ◌before◌}
unfoldable pub use Rattle.refusals.specs.Tests.{first}
pub use Rattle.geometry.specs.Shape.{size_allowed}
unfoldable pub use Rattle.geometry.specs.Shape.{length_refusal}
pub use Rattle.printing.specs.Decimal.{decimal}
pub use Rattle.file_pgm.specs.Header.Header.{leading}
unfoldable pub use Rattle.file_pgm.specs.Header.Header.{pgm_header}
pub use Rattle.file_pgm.specs.Samples.Samples.{samples_of}
unfoldable pub use Rattle.file_pgm.specs.Samples.Samples.{above_refusal, bytes_of, some_above}
