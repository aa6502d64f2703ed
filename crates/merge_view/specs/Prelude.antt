-- The words of other crates that this crate's files share. Lemmas are not passed on: of those the `use` line says where they are.
pub use Rattle.algebra.specs.Prelude.{List, ℕ, ℤ, [], ap, ap₂, arith, drop, get_or, length, lit≤, nat_abs, negsuc, pos, refl, sym, take, ◌∙◌}
pub use Rattle.std.specs.Prelude.{◌≤ℤ◌, ◌%◌, ◌*◌, ◌+◌, ◌+ℤ◌, ◌-◌, ◌/◌, ◌<◌, ◌^◌, ◌∷◌, ◌≡◌, ◌≤◌}
unfoldable pub use Rattle.sequences.specs.Grid.{grid}
pub use Rattle.sequences.specs.Tab.{tab}
pub use Rattle.geometry.specs.Fits.{Allowed, Sampled}
pub use Rattle.geometry.specs.Read.{Image, inside}
unfoldable pub use Rattle.geometry.specs.Read.{plane_of, read, sample_at, sample_index}
pub use Rattle.geometry.specs.Shape.{frame_stride}
unfoldable pub use Rattle.geometry.specs.Shape.{sample_length}
pub use Rattle.geometry.specs.declared.Shape.{Shape}
