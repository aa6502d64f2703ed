-- The words of other crates that this crate's files share. Lemmas are not passed on: of those the `use` line says where they are.
pub use Rattle.std.specs.Prelude.{◌%◌, ◌*◌, ◌*ℤ◌, ◌+◌, ◌+ℤ◌, ◌-◌, ◌-ℤ◌, ◌/◌, ◌<◌, ◌^◌, ◌≡◌, ◌≤◌}
pub use Rattle.algebra.specs.Prelude.{Bool, List, ℕ, ℤ, [], ap, ap₂, arith, eqb, false, get_or, length, lit<, lit≤, ltb, nat_abs, rules, pos, refl, subst, suc, sym, true, zero, ◌∙◌}
pub use Rattle.algebra.specs.Bound.{AtMost}
unfoldable pub use Rattle.sequences.specs.Grid.{cell, grid}
unfoldable pub use Rattle.sequences.specs.Tab.{tab}
pub use Rattle.sequences.specs.Write.{written}
pub use Rattle.geometry.specs.Fits.{Allowed, BurstFits, Sampled, SamplesFit, TileSide, ValuesFit, VectorsFit}
pub use Rattle.geometry.specs.Read.{sample_at}
unfoldable pub use Rattle.geometry.specs.Read.{plane_of, read}
pub use Rattle.geometry.specs.declared.Shape.{Shape}
pub use Rattle.recipe.specs.Scene.{Scene, reference_root}
unfoldable pub use Rattle.recipe.specs.Scene.{black_of, other_tile, reference_tile, scene_at, tile_at, tile_difference, tile_here, tile_noise, tile_spatial}
pub use Rattle.recipe.specs.Side.{Side}
unfoldable pub use Rattle.recipe.specs.Sides.{side_of}
unfoldable pub use Rattle.recipe.specs.Spatial.{copy_at, merged_sum, spatial_at, taken_at}
pub use Rattle.recipe.specs.SpatialNoise.{frequency, spatial_number}
unfoldable pub use Rattle.recipe.specs.Tables.{side16}
pub use Rattle.recipe.specs.declared.Merge.{Merge}
pub use Rattle.noise.specs.SpatialRange.{SpatialRange}
pub use Rattle.tile_spectrum.specs.Lines.Lines.{LineMost, TileMost}
pub use Rattle.tile_spectrum.specs.Magnitudes.{noise_most, small_most, spatial_correction_most, spatial_most}
pub use Rattle.tile_spectrum.specs.Pairs.{Paired, either, plane_in, side_by_side}
pub use Rattle.tile_spatial.specs.Filtering.{NoiseLine, NoisesMost, SamplePair, SumMost, SumPair, SumRow, filtered_sums}
unfoldable pub use Rattle.tile_spatial.specs.Filtering.{copy_in, step_at}
