-- The exact filtered merge of request L13: "the same V', worked in the same fractions, the copy and its bins unrounded too".
use Rattle.std.specs.Prelude.{◌*◌}
use Rattle.algebra.specs.Prelude.{ℕ, suc, arith, ℤ, pos, neg_ℤ}
use Rattle.algebra.specs.Fraction.{Frac, whole, ◌+F◌, ◌-F◌, ◌·F◌, over, sum_f}
use Rattle.recipe.specs.Side.{Side, cos_at, sin_at}
use Rattle.recipe.specs.Output.{row_in, column_in, weight_in}
use Rattle.recipe.specs.Exact.{exact_wiener, exact_inverse_at, exact_correction_at, unrounded}
use Rattle.recipe.specs.Spatial.{FilteredTile}

-- the bins of a tile m of fractions: the two-way transform with C(k) and −S(k), along each row and then along the columns, divided by its scale
module _ (s : Side) (m : ℕ → ℕ → Frac) where
  unfoldable pub exact_row_re : ℕ → ℕ → Frac
  exact_row_re y v = sum_f s.side (λ x. cos_at s (v * x) ·F m y x)

  unfoldable pub exact_row_im : ℕ → ℕ → Frac
  exact_row_im y v = sum_f s.side (λ x. neg_ℤ (sin_at s (v * x)) ·F m y x)

  unfoldable pub exact_bin_re : ℕ → ℕ → Frac
  exact_bin_re u v =
      over (sum_f s.side (λ y. cos_at s (u * y) ·F exact_row_re y v -F neg_ℤ (sin_at s (u * y)) ·F exact_row_im y v)) s.scale s.scale_above

  unfoldable pub exact_bin_im : ℕ → ℕ → Frac
  exact_bin_im u v =
      over (sum_f s.side (λ y. neg_ℤ (sin_at s (u * y)) ·F exact_row_re y v +F cos_at s (u * y) ·F exact_row_im y v)) s.scale s.scale_above

module _ (s : Side) (others : ℕ) (t : FilteredTile) where
  -- the sum of p over the other frames, and the merged tile: T0 less this over N
  unfoldable pub exact_sum : ℕ → ℕ → Frac
  exact_sum y x = sum_f others (λ z. exact_correction_at s t.noise (t.differences z) y x)

  unfoldable pub exact_merged_at : ℕ → ℕ → Frac
  exact_merged_at y x = whole (t.reference y x) -F over (exact_sum y x) (suc others) (omega arith)

  -- the correction of the merged tile at V'
  unfoldable pub exact_spatial_at : ℕ → ℕ → Frac
  exact_spatial_at =
      let re = exact_bin_re s exact_merged_at in
      let im = exact_bin_im s exact_merged_at in
      exact_inverse_at s (λ u v. exact_wiener s (t.spatial u v) (re u v) (im u v)) (λ u v. exact_wiener s (t.spatial u v) (im u v) (re u v))

  -- what is taken from T0 in all, in 1/N
  unfoldable pub exact_taken_at : ℕ → ℕ → Frac
  exact_taken_at y x = exact_sum y x +F pos (suc others) ·F exact_spatial_at y x

unfoldable pub exact_filtered_sample : (s : Side) (a b others : ℕ) (tiles : ℕ → FilteredTile) (t0 : ℤ) → Frac
exact_filtered_sample s a b others tiles t0 =
    unrounded s others (λ t. pos (weight_in s a b t) ·F exact_taken_at s others (tiles t) (row_in s a t) (column_in s b t)) t0
