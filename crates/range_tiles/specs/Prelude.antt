-- The words of other crates that this crate's files share. Lemmas are not passed on: of those the `use` line says where they are.
pub use Rattle.std.specs.Prelude.{◌%◌, ◌*◌, ◌+◌, ◌+ℤ◌, ◌-◌, ◌/◌, ◌<◌, ◌^◌, ◌≡◌, ◌≤◌}
pub use Rattle.algebra.specs.Prelude.{List, ℕ, ℤ, [], ap, ap₂, arith, eqb, get_or, length, lit<, lit≤, nat_abs, rules, pos, refl, subst, sym, ◌∙◌}
unfoldable pub use Rattle.sequences.specs.Grid.{cell, grid}
pub use Rattle.recipe.specs.Scene.{Scene, tile_difference, tile_noise}
unfoldable pub use Rattle.recipe.specs.Scene.{reference_tile, scene_at}
unfoldable pub use Rattle.recipe.specs.Tables.{side16}
pub use Rattle.recipe.specs.declared.Merge.{Merge}
pub use Rattle.range.specs.Range.{greatest_at, least_at}
pub use Rattle.range_pair.specs.Added.{NoisesFit, PairSums, noise_of, pair_end, pair_plus}
pub use Rattle.range_pair.specs.declared.Noises.{Noises}
pub use Rattle.merge_tiles.specs.Rows.{Spread, row_word}
unfoldable pub use Rattle.merge_tiles.specs.Rows.{row_words, slot_of}
pub use Rattle.merge_tiles.specs.Sum.{PairTaken, Taking, at_site, pair_at, taken_most}
