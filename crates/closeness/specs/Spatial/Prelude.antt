-- The words of other crates that this crate's files share. Lemmas are not passed on: of those the `use` line says where they are.
pub use Rattle.algebra.specs.Prelude.{List, ℕ, ℤ, [], ap, ap₂, arith, get_or, lit<, lit≤, nat_abs, neg_ℤ, pos, refl, subst, suc, sym, zero, ◌∙◌}
pub use Rattle.std.specs.Prelude.{◌≤ℤ◌, ◌%◌, ◌*◌, ◌*ℤ◌, ◌+◌, ◌+ℤ◌, ◌-ℤ◌, ◌/◌, ◌<◌, ◌∷◌, ◌≡◌, ◌≤◌}
pub use Rattle.std.proofs.Common.{subst₂}
pub use Rattle.algebra.specs.Fraction.{Frac, Within}
unfoldable pub use Rattle.algebra.specs.Fraction.{whole}
pub use Rattle.algebra.specs.Lipschitz.{sq}
pub use Rattle.algebra.specs.Order.{0≤pos, zarith}
pub use Rattle.algebra.specs.Ring.{Expr, #◌, con, ring, var, ⊖◌, ◌⊞◌, ◌⊟◌, ◌⊠◌}
unfoldable pub use Rattle.algebra.specs.Sums.{sum_z}
pub use Rattle.algebra.specs.Vars.{vars10, vars3, vars4, vars5, vars6, vars7, vars8}
pub use Rattle.recipe.specs.Correction.{filtered, power, twiddle_im, twiddle_re}
unfoldable pub use Rattle.recipe.specs.Correction.{bin_im, bin_re, correction_at, inverse_at, inverse_re, row_im, row_re, wiener}
pub use Rattle.recipe.specs.Exact.{exact_filtered, exact_sample}
unfoldable pub use Rattle.recipe.specs.Exact.{exact_correction_at, exact_inverse_at, exact_inverse_re, exact_wiener}
unfoldable pub use Rattle.recipe.specs.ExactSpatial.{exact_bin_im, exact_bin_re, exact_filtered_sample, exact_merged_at, exact_row_im, exact_row_re, exact_spatial_at, exact_sum, exact_taken_at}
pub use Rattle.recipe.specs.Side.{Side}
unfoldable pub use Rattle.recipe.specs.Side.{cos_at, sin_at}
pub use Rattle.recipe.specs.Spatial.{FilteredTile}
unfoldable pub use Rattle.recipe.specs.Spatial.{copy_at, copy_filtered, copy_quantized, filtered_sample, merged_sum, spatial_at, taken_at}
unfoldable pub use Rattle.recipe.specs.Tables.{cosine16, cosines, side16, sine16}
pub use Rattle.closeness.specs.Closeness.{Fitting, tile_error}
