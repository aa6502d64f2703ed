-- The words of other crates that this crate's files share. Lemmas are not passed on: of those the `use` line says where they are.
pub use Rattle.std.specs.Prelude.{◌%◌, ◌*◌, ◌+◌, ◌-◌, ◌/◌, ◌<◌, ◌≡◌, ◌≤◌}
pub use Rattle.algebra.specs.Prelude.{Bool, List, ℕ, [], ap, ap₂, arith, cond, eqb, false, get_or, leb, length, lit<, lit≤, rules, refl, suc, true, zero, ◌∙◌}
unfoldable pub use Rattle.algebra.specs.Sums.{sum_n}
unfoldable pub use Rattle.sequences.specs.Grid.{cell}
unfoldable pub use Rattle.sequences.specs.Tab.{tab}
pub use Rattle.recipe.specs.NoiseNumber.{intensity, squared}
unfoldable pub use Rattle.recipe.specs.NoiseNumber.{sum_of_squares, tile_root}
pub use Rattle.recipe.specs.Root.{or_next}
unfoldable pub use Rattle.recipe.specs.Root.{root_in, whole_root}
