-- The words of other crates that this crate's files share. Lemmas are not passed on: of those the `use` line says where they are.
pub use Rattle.algebra.specs.Prelude.{Bool, List, ℕ, ℤ, [], ap, ap₂, arith, cond, eqb, false, get_or, length, lit<, lit≤, ltb, nat_abs, rules, pos, refl, set, subst, suc, sym, true, zero, ◌∙◌}
pub use Rattle.std.specs.Prelude.{Float, ◌%◌, ◌*◌, ◌+◌, ◌+ℤ◌, ◌-◌, ◌-ℤ◌, ◌/◌, ◌<◌, ◌^◌, ◌∷◌, ◌≡◌, ◌≤◌}
pub use Rattle.std.specs.Float.Ieee.{add, of_int, sub}
pub use Rattle.std.specs.Float.{binary64, nan}
unfoldable pub use Rattle.sequences.specs.Grid.{cell}
pub use Rattle.tile_spectrum.specs.Pairs.{Binned, Paired, PairedOf, either}
unfoldable pub use Rattle.tile_spectrum.specs.Spectrum.{by_kind, folded_quad, quad_places, two_bins_of}
