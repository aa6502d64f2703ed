-- "With s = 0 the plain merge comes out": where every V' is 0 the spatial correction is 0.
use Rattle.std.specs.Prelude.{◌≡◌, ◌∷◌, ◌*◌, ◌<◌, ◌+ℤ◌, ◌-ℤ◌, ◌*ℤ◌}
use Rattle.tile_spectrum.specs.Prelude.{sym, ◌∙◌, ap, [], ℕ, suc, ℤ, pos, var, ◌⊞◌, ◌⊠◌, #◌, ring, upward, Side, wiener, bin_re, bin_im, correction_at}
use Rattle.std.proofs.Common.{zero-mul}
use Rattle.std.proofs.Math.Nat.{zero-div}
use Rattle.algebra.specs.SumLaws.{sum_z-cong, sum_z-scale}
use Rattle.algebra.specs.Clamp.{clamp_z}
use Rattle.tile_spectrum.specs.ZeroLaws.{inverse-zero}
use Rattle.recipe.specs.Output.{row_in, column_in, weight_in}
use Rattle.recipe.specs.PlainOutput.{output_sample}
use Rattle.recipe.specs.SpatialNoise.{spatial_number}
use Rattle.recipe.specs.Spatial.{FilteredTile, merged_sum, copy_at, copy_filtered, spatial_at, taken_at, filtered_sample}

pub no-strength : (n : Side) (ls lr r frames u v : ℕ) → spatial_number n 0 ls lr r frames u v ≡ 0
unfolding spatial_number
no-strength n ls lr r frames u v = rw (zero-mul, zero-mul) (zero-div (16384 * frames))

filtered-none : (s : Side) (noise : ℕ) (b c : ℤ) → noise ≡ 0 → copy_filtered s noise b c ≡ pos 0
unfolding copy_filtered wiener
filtered-none s noise b c e = ap (λ n. copy_filtered s n b c) e

module _ (s : Side) (others : ℕ) (t : FilteredTile) (above : 0 < s.divisor) (none : (u v : ℕ) → t.spatial u v ≡ 0) (y x : ℕ) where
  spatial-none : spatial_at s others t y x ≡ pos 0
  unfolding spatial_at
  spatial-none =
      let c = copy_at s others t in
      inverse-zero s above _ _ (λ u v. filtered-none s (t.spatial u v) (bin_re s c u v) (bin_im s c u v) (none u v)) (λ u v. filtered-none s (t.spatial u v) (bin_im s c u v) (bin_re s c u v) (none u v)) y x

  pub taken_none : taken_at s others t y x ≡ merged_sum s others t y x
  unfolding taken_at
  taken_none =
      ap (λ p. merged_sum s others t y x +ℤ pos (suc others) *ℤ p) spatial-none
      ∙ ring (merged_sum s others t y x ∷ pos (suc others) ∷ []) (var 0 ⊞ var 1 ⊠ # 0) (var 0) tt

pub plain-merge : (s : Side) (a b others : ℕ) (tiles : ℕ → FilteredTile) (t0 : ℤ) → 0 < s.divisor → ((t u v : ℕ) → (tiles t).spatial u v ≡ 0) → filtered_sample s a b others tiles t0 ≡ output_sample s a b others (λ t. (tiles t).noise) (λ t. (tiles t).differences) t0
unfolding filtered_sample output_sample merged_sum
plain-merge s a b others tiles t0 above none =
    let whole = 256 * (s.weight * suc others) in
    ap (λ z. clamp_z (pos 0) (pos 4095) (upward (t0 *ℤ pos whole -ℤ z) whole))
    (sum_z-cong 4 _ _
    (λ t l. ap (λ p. pos (weight_in s a b t) *ℤ p) (taken_none s others (tiles t) above (none t) (row_in s a t) (column_in s b t))
    ∙ sym (sum_z-scale others (pos (weight_in s a b t)) (λ z. correction_at s (tiles t).noise ((tiles t).differences z) (row_in s a t) (column_in s b t)))))
