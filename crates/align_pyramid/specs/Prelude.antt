-- The words of other crates that this crate's files share. Lemmas are not passed on: of those the `use` line says where they are.
pub use Rattle.std.specs.Prelude.{◌%◌, ◌*◌, ◌++◌, ◌+◌, ◌-◌, ◌-ℤ◌, ◌/◌, ◌<◌, ◌^◌, ◌≡◌, ◌≤◌}
pub use Rattle.algebra.specs.Prelude.{List, ℕ, ℤ, ap, ap₂, arith, get_or, length, nat_abs, rules, pos, refl, set, subst, suc, sym, w64, zero, ◌∙◌}
pub use Rattle.sequences.specs.Write.{written}
pub use Rattle.geometry.specs.Read.{Image, inside, sample_at}
unfoldable pub use Rattle.geometry.specs.Read.{read}
pub use Rattle.geometry.specs.Tiles.{Level, level0, level1, level2, level3}
unfoldable pub use Rattle.geometry.specs.Tiles.{level_size, tile_count}
pub use Rattle.geometry.specs.declared.Shape.{Shape}
pub use Rattle.align_pyramid.specs.Bayer.Bayer.{bayer_sum}
pub use Rattle.align_pyramid.specs.Bayer.Frame.{Frame}
pub use Rattle.align_pyramid.specs.Halving.Columns.{edged_sum}
unfoldable pub use Rattle.align_pyramid.specs.Halving.Columns.{column_sum}
pub use Rattle.align_pyramid.specs.Halving.Halving.{halved, weights}
unfoldable pub use Rattle.align_pyramid.specs.Halving.Halving.{tap, weighted}
pub use Rattle.align_pyramid.specs.Halving.Magnitudes.{column_most, value_most}
