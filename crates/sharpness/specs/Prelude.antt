-- The words of other crates that this crate's files share. Lemmas are not passed on: of those the `use` line says where they are.
pub use Rattle.algebra.specs.Prelude.{List, ℕ, ap, ap₂, arith, false, get_or, ltb, rules, refl, sym, true, ◌∙◌}
pub use Rattle.std.specs.Prelude.{min, ◌*◌, ◌+◌, ◌-◌, ◌/◌, ◌<◌, ◌≡◌, ◌≤◌}
unfoldable pub use Rattle.algebra.specs.Sums.{sum_n}
pub use Rattle.geometry.specs.Fits.{Allowed, Placed, Sampled, SamplesFit}
pub use Rattle.geometry.specs.Read.{Image, sample_at}
unfoldable pub use Rattle.geometry.specs.Read.{plane_of}
pub use Rattle.geometry.specs.declared.Shape.{Shape}
