-- How large the numbers of the recipe are: B, Q, G and P.
use Rattle.std.specs.Prelude.{◌+◌, ◌*◌, ◌/◌, ◌^◌, ◌≤◌, ◌+ℤ◌, ◌-ℤ◌, ◌*ℤ◌}
use Rattle.tile_spectrum.specs.Prelude.{sym, subst, ℕ, lit≤, lit<, ℤ, nat_abs, neg_ℤ, sum_z, cos_at, sin_at, side16, wiener, row_re, row_im, bin_re, bin_im, quantized, filtered, inverse_re, inverse_at, correction_at, difference_most}
use Rattle.std.proofs.Common.{le_refl, le_trans, add_comm, add-le-add, mul-add, mul-le-mul_left}
use Rattle.algebra.specs.Order.{abs-add, abs-sub, abs_neg, abs-mul-le}
use Rattle.algebra.specs.SumLaws.{abs-sum-bound}
use Rattle.recipe.specs.TableLaws.{cosine-most, minus-sine-is, pair-most}
use Rattle.recipe.specs.Spatial.{copy_filtered}
use Rattle.recipe.specs.CorrectionLaws.{along_re, along_im, two-way}
use Rattle.tile_spectrum.specs.Magnitudes.{bin_most, gain_most, noise_most, root_most, small_most, spatial_most, spatial_gain_most, spatial_correction_most}
use Rattle.tile_spectrum.specs.Magnitudes.{row_most, correction_most}
use Rattle.tile_spectrum.specs.RoundingLaws.{away-most}
use Rattle.tile_spectrum.specs.WienerLaws.{wiener-most, wiener-root}

-- sixteen products with entries of the table
pub sum-most : (c : ℕ → ℤ) (b : ℕ) (f : ℕ → ℤ) → ((i : ℕ) → nat_abs (c i) ≤ 16384) → ((i : ℕ) → nat_abs (f i) ≤ b) → nat_abs (sum_z 16 (λ i. f i *ℤ c i)) ≤ 16 * (b * 16384)
sum-most c b f m h = abs-sum-bound 16 (b * 16384) (λ i. f i *ℤ c i) (λ i l. abs-mul-le (f i) (c i) (h i) (m i))

-- the sums of a complex line f + i·g with C and S, each number of at most b
module _ (b : ℕ) (f g : ℕ → ℤ) (p : (i : ℕ) → nat_abs (f i) ≤ b) (q : (i : ℕ) → nat_abs (g i) ≤ b) where
  products : (i : ℕ) (x y : ℤ) → nat_abs x + nat_abs y ≤ 23170 → nat_abs (f i *ℤ x) + nat_abs (g i *ℤ y) ≤ b * 23170
  products i x y h =
      le_trans (add-le-add (abs-mul-le (f i) x (p i) (le_refl (nat_abs x))) (abs-mul-le (g i) y (q i) (le_refl (nat_abs y))))
      (subst (λ n. n ≤ b * 23170) (mul-add b (nat_abs x) (nat_abs y)) (mul-le-mul_left b h))

  sums_most : (x y : ℕ → ℤ) → ((i : ℕ) → nat_abs (x i) + nat_abs (y i) ≤ 23170) → nat_abs (sum_z 16 (λ i. f i *ℤ x i +ℤ g i *ℤ y i)) ≤ 16 * (b * 23170)
  sums_most x y h =
      abs-sum-bound 16 (b * 23170) (λ i. f i *ℤ x i +ℤ g i *ℤ y i) (λ i l. le_trans (abs-add (f i *ℤ x i) (g i *ℤ y i)) (products i (x i) (y i) (h i)))

  differences-most : (x y : ℕ → ℤ) → ((i : ℕ) → nat_abs (x i) + nat_abs (y i) ≤ 23170) → nat_abs (sum_z 16 (λ i. f i *ℤ x i -ℤ g i *ℤ y i)) ≤ 16 * (b * 23170)
  differences-most x y h =
      abs-sum-bound 16 (b * 23170) (λ i. f i *ℤ x i -ℤ g i *ℤ y i) (λ i l. le_trans (abs-sub (f i *ℤ x i) (g i *ℤ y i)) (products i (x i) (y i) (h i)))

-- |S| + |C|, |C| + |−S| and |−S| + |C|
swapped : (k : ℕ) → nat_abs (sin_at side16 k) + nat_abs (cos_at side16 k) ≤ 23170
swapped k = rw (add_comm (nat_abs (sin_at side16 k)) (nat_abs (cos_at side16 k))) (pair-most k)

turned : (k : ℕ) → nat_abs (cos_at side16 k) + nat_abs (neg_ℤ (sin_at side16 k)) ≤ 23170
turned k = rw (abs_neg (sin_at side16 k)) (pair-most k)

turned-swapped : (k : ℕ) → nat_abs (neg_ℤ (sin_at side16 k)) + nat_abs (cos_at side16 k) ≤ 23170
turned-swapped k = rw (abs_neg (sin_at side16 k)) (swapped k)

minus-sine-most : (k : ℕ) → nat_abs (neg_ℤ (sin_at side16 k)) ≤ 16384
minus-sine-most k = rw (minus-sine-is k) (cosine-most (k + 4))

-- B
module _ (d : ℕ → ℕ → ℤ) (m : (y x : ℕ) → nat_abs (d y x) ≤ difference_most) where
  row-re-most : (v y : ℕ) → nat_abs (row_re side16 d y v) ≤ row_most
  unfolding row_re side16
  row-re-most v y = sum-most (λ x. cos_at side16 (v * x)) difference_most (d y) (λ x. cosine-most (v * x)) (m y)

  row-im-most : (v y : ℕ) → nat_abs (row_im side16 d y v) ≤ row_most
  unfolding row_im side16
  row-im-most v y = sum-most (λ x. neg_ℤ (sin_at side16 (v * x))) difference_most (d y) (λ x. minus-sine-most (v * x)) (m y)

  pub bin-re-most : (u v : ℕ) → nat_abs (bin_re side16 d u v) ≤ bin_most
  unfolding bin_re side16
  bin-re-most u v =
      differences-most row_most (λ y. row_re side16 d y v) (λ y. row_im side16 d y v) (row-re-most v) (row-im-most v) (λ y. cos_at side16 (u * y)) (λ y. neg_ℤ (sin_at side16 (u * y))) (λ y. turned (u * y))

  pub bin-im-most : (u v : ℕ) → nat_abs (bin_im side16 d u v) ≤ bin_most
  unfolding bin_im side16
  bin-im-most u v =
      sums_most row_most (λ y. row_re side16 d y v) (λ y. row_im side16 d y v) (row-re-most v) (row-im-most v) (λ y. neg_ℤ (sin_at side16 (u * y))) (λ y. cos_at side16 (u * y)) (λ y. turned-swapped (u * y))

-- Q and G
part-most : (b : ℤ) → nat_abs b ≤ bin_most → nat_abs (quantized side16 b) ≤ gain_most
unfolding quantized side16
part-most b h = away-most b (2 ^ 24) bin_most (lit< tt) h

pub gain-most : (noise : ℕ) (b c : ℤ) → nat_abs b ≤ bin_most → nat_abs (filtered side16 noise b c) ≤ gain_most
unfolding filtered
gain-most noise b c h = le_trans (wiener-most noise (quantized side16 b) (quantized side16 c)) (part-most b h)

-- P, of parts of G of at most b
module _ (b : ℕ) (g h : ℕ → ℕ → ℤ) (p : (u v : ℕ) → nat_abs (g u v) ≤ b) (q : (u v : ℕ) → nat_abs (h u v) ≤ b) where
  abbrev along_most : ℕ
  along_most = 16 * (b * 23170)

  along-re-most : (x u : ℕ) → nat_abs (along_re side16 g h x u) ≤ along_most
  unfolding along_re side16
  along-re-most x u =
      differences-most b (g u) (h u) (p u) (q u) (λ v. cos_at side16 (v * x)) (λ v. sin_at side16 (v * x)) (λ v. pair-most (v * x))

  along-im-most : (x u : ℕ) → nat_abs (along_im side16 g h x u) ≤ along_most
  unfolding along_im side16
  along-im-most x u = sums_most b (g u) (h u) (p u) (q u) (λ v. sin_at side16 (v * x)) (λ v. cos_at side16 (v * x)) (λ v. swapped (v * x))

  sum-small : (y x : ℕ) → nat_abs (inverse_re side16 g h y x) ≤ 16 * (along_most * 23170)
  unfolding side16
  sum-small y x =
      subst (λ z. nat_abs z ≤ 16 * (along_most * 23170)) (sym (two-way side16 g h x y))
      (differences-most along_most (along_re side16 g h x) (along_im side16 g h x) (along-re-most x) (along-im-most x) (λ u. cos_at side16 (u * y)) (λ u. sin_at side16 (u * y)) (λ u. pair-most (u * y)))

  inverse-small : (y x : ℕ) → nat_abs (inverse_at side16 g h y x) ≤ (2 * (16 * (along_most * 23170)) + 2 ^ 32) / (2 * 2 ^ 32)
  unfolding inverse_at side16
  inverse-small y x = away-most (inverse_re side16 g h y x) (2 ^ 32) (16 * (along_most * 23170)) (lit< tt) (sum-small y x)

pub correction-most : (noise : ℕ) (d : ℕ → ℕ → ℤ) → ((y x : ℕ) → nat_abs (d y x) ≤ difference_most) → (y x : ℕ) → nat_abs (correction_at side16 noise d y x) ≤ correction_most
unfolding correction_at
correction-most noise d m y x =
    le_trans
    (inverse-small gain_most _ _ (λ u v. gain-most noise (bin_re side16 d u v) (bin_im side16 d u v) (bin-re-most d m u v)) (λ u v. gain-most noise (bin_im side16 d u v) (bin_re side16 d u v) (bin-im-most d m u v)) y x)
    (lit≤ tt)

-- P of any differences, at V up to noise_most
pub correction-small : (noise : ℕ) → noise ≤ noise_most → (d : ℕ → ℕ → ℤ) (y x : ℕ) → nat_abs (correction_at side16 noise d y x) ≤ small_most
unfolding correction_at filtered
correction-small noise l d y x =
    let root : (q r : ℤ) → nat_abs (wiener noise q r) ≤ root_most = λ q r. wiener-root noise root_most q r (lit< tt) (le_trans l (lit≤ tt)) in
    le_trans (inverse-small root_most _ _ (λ u v. root _ _) (λ u v. root _ _) y x) (lit≤ tt)

-- the spatial filter's step and P' of any bins b + i·c, at V' up to spatial_most
pub copy-gain-most : (noise : ℕ) → noise ≤ spatial_most → (q r : ℤ) → nat_abs (wiener noise q r) ≤ spatial_gain_most
copy-gain-most noise l q r = wiener-root noise spatial_gain_most q r (lit< tt) (le_trans l (lit≤ tt))

pub spatial-small : (noise : ℕ → ℕ → ℕ) → ((u v : ℕ) → noise u v ≤ spatial_most) → (b c : ℕ → ℕ → ℤ) (y x : ℕ) →
    nat_abs (inverse_at side16 (λ u v. copy_filtered side16 (noise u v) (b u v) (c u v)) (λ u v. copy_filtered side16 (noise u v) (c u v) (b u v)) y x) ≤ spatial_correction_most
unfolding copy_filtered
spatial-small noise l b c y x =
    le_trans (inverse-small spatial_gain_most _ _ (λ u v. copy-gain-most (noise u v) (l u v) _ _) (λ u v. copy-gain-most (noise u v) (l u v) _ _) y x) (lit≤ tt)
