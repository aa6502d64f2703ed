-- The words of other crates that this crate's files share. Lemmas are not passed on: of those the `use` line says where they are.
pub use Rattle.std.specs.Prelude.{◌%◌, ◌*◌, ◌*ℤ◌, ◌+◌, ◌+ℤ◌, ◌-ℤ◌, ◌<◌, ◌∷◌, ◌≡◌, ◌≤◌}
pub use Rattle.algebra.specs.Prelude.{ℕ, ℤ, [], ap, ap₂, arith, lit<, nat_abs, negsuc, pos, refl, subst, suc, sym, zero, ◌∙◌}
pub use Rattle.algebra.specs.Fraction.{Frac, Within, over, sum_f, whole, ◌-F◌}
unfoldable pub use Rattle.algebra.specs.Fraction.{divide, frac, ◌+F◌, ◌·F◌, ◌×F◌, ◌÷F◌}
pub use Rattle.recipe.specs.Correction.{bin_im, bin_re, power}
unfoldable pub use Rattle.recipe.specs.Correction.{correction_at, filtered, inverse_at, inverse_re, quantized, twiddle_im, twiddle_re, wiener}
pub use Rattle.recipe.specs.Exact.{unrounded}
unfoldable pub use Rattle.recipe.specs.Exact.{exact_bin, exact_correction_at, exact_filtered, exact_inverse_at, exact_inverse_re, exact_noise, exact_sample, exact_wiener}
unfoldable pub use Rattle.recipe.specs.PlainOutput.{output_sample}
pub use Rattle.recipe.specs.Side.{Side}
unfoldable pub use Rattle.recipe.specs.Side.{cos_at, sin_at}
