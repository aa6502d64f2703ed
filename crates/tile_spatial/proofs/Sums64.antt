-- Sums and differences of two numbers in 64 bits, and N times a number added to a sum.
use Rattle.std.specs.Prelude.{◌≡◌, ◌+◌, ◌*◌, ◌+ℤ◌, ◌-ℤ◌, ◌*ℤ◌}
use Rattle.algebra.specs.Prelude.{sym, ap, ap₂, subst, ◌∙◌, List, ℕ, arith, T, ltb, get_or, ℤ, pos, neg_ℤ, w64, SFits, to_z, of_z, to_z-of_z}
use Prim.Native.Nat.{◌^◌}
use Rattle.tile_spatial.specs.Prelude.{binary64, in_float, small_most, spatial_gain_most, spatial_correction_most}
use mir.ValLaws.{to_z_pos}
use Rattle.algebra.specs.Order.{abs_neg, abs-sub}
use Rattle.algebra.specs.Bound.{AtMost, most_fits, add_most, sub-most, mul_most, add-fits, sub-fits, zero_minus}
use Rattle.floats.specs.Casts.{whole-counted}
use Rattle.tile_spectrum.specs.Lines.Held.{number_is, number-most}
use Rattle.tile_spatial.specs.Filtering.{Frames, SumMost, SumRow}

-- ---- two numbers of at most b

module _ {b : ℕ} {x y : ℤ} (m : AtMost b x) (n : AtMost b y) (t : T (ltb b (2 ^ 63))) (u : T (ltb (b + b) (2 ^ 63))) where
  abbrev held : ℤ → ℤ
  held z = to_z w64 (of_z w64 z)

  pub sum_fits : SFits w64 (held x +ℤ held y)
  sum_fits = add-fits w64 _ _ b b (number-most w64 m t) (number-most w64 n t) u

  pub sum_is : to_z w64 (of_z w64 (held x +ℤ held y)) ≡ x +ℤ y
  sum_is = to_z-of_z sum_fits ∙ ap₂ ◌+ℤ◌ (number_is w64 m t) (number_is w64 n t)

  pub sum-most : AtMost (b + b) (to_z w64 (of_z w64 (held x +ℤ held y)))
  sum-most = subst (AtMost (b + b)) (sym sum_is) (add_most m n)

  pub difference-fits : SFits w64 (held x -ℤ held y)
  difference-fits = sub-fits w64 _ _ b b (number-most w64 m t) (number-most w64 n t) u

  pub difference-is : to_z w64 (of_z w64 (held x -ℤ held y)) ≡ x -ℤ y
  difference-is = to_z-of_z difference-fits ∙ ap₂ ◌-ℤ◌ (number_is w64 m t) (number_is w64 n t)

  pub difference-most : AtMost (b + b) (to_z w64 (of_z w64 (held x -ℤ held y)))
  difference-most = subst (AtMost (b + b)) (sym difference-is) (sub-most m n)

-- ---- less than nothing

module _ {b : ℕ} {x : ℤ} (m : AtMost b x) (t : T (ltb b (2 ^ 63))) where
  pub minus-fits : SFits w64 (pos 0 -ℤ to_z w64 (of_z w64 x))
  minus-fits =
      let y = to_z w64 (of_z w64 x) in
      most_fits w64 (pos 0 -ℤ y) b (record { most = omega (arith, abs-sub (pos 0) y, (number-most w64 m t).most) }) t

  pub minus_is : to_z w64 (of_z w64 (pos 0 -ℤ to_z w64 (of_z w64 x))) ≡ neg_ℤ x
  minus_is = to_z-of_z minus-fits ∙ ap (λ z. pos 0 -ℤ z) (number_is w64 m t) ∙ zero_minus x

  pub minus-most : AtMost b (to_z w64 (of_z w64 (pos 0 -ℤ to_z w64 (of_z w64 x))))
  minus-most = subst (AtMost b) (sym minus_is) (record { most = omega (arith, abs_neg x, m.most) })

-- ---- N·p and a sum of at most seven numbers P

module _ {frames : ℕ} {p s : ℤ} (f : Frames frames) (m : AtMost spatial_correction_most p) (n : SumMost frames s) where
  abbrev product : ℤ
  product = to_z w64 frames *ℤ to_z w64 (of_z w64 p)

  product_is : product ≡ pos frames *ℤ p
  product_is = ap₂ ◌*ℤ◌ (to_z_pos w64 frames (omega (arith, f.few))) (number_is w64 m tt)

  product-most : AtMost (8 * spatial_correction_most) product
  product-most = subst (AtMost (8 * spatial_correction_most)) (sym product_is) (mul_most {x = pos frames} (record { most = f.few }) m)

  pub product-fits : SFits w64 product
  product-fits = most_fits w64 product (8 * spatial_correction_most) product-most tt

  sum-small : AtMost (7 * small_most) s
  sum-small = record { most = omega (arith, n.most, f.few) }

  pub more-fits : SFits w64 (to_z w64 (of_z w64 s) +ℤ to_z w64 (of_z w64 product))
  more-fits = add-fits w64 _ _ (7 * small_most) (8 * spatial_correction_most) (number-most w64 sum-small tt) (number-most w64 product-most tt) tt

  pub more-is : to_z w64 (of_z w64 (to_z w64 (of_z w64 s) +ℤ to_z w64 (of_z w64 product))) ≡ s +ℤ pos frames *ℤ p
  more-is = to_z-of_z more-fits ∙ ap₂ ◌+ℤ◌ (number_is w64 sum-small tt) (number_is w64 product-most tt ∙ product_is)

-- number l of a row of sums, which is another's
pub sum-held : {frames : ℕ} {x : List ℤ} (r : List ℤ) (l : ℕ) → Frames frames → SumRow frames x → get_or r l (pos 0) ≡ get_or x l (pos 0) → to_z w64 (of_z w64 (get_or r l (pos 0))) ≡ get_or x l (pos 0)
sum-held r l f m e =
    ap (λ z. to_z w64 (of_z w64 z)) e ∙ number_is w64 {b = 7 * small_most} (record { most = omega (arith, (m.at l).most, f.few) }) tt

-- a number of the folded step in double
pub fold-counted : {z : ℤ} → AtMost (2 * spatial_gain_most) z → T (in_float binary64 (to_z w64 (of_z w64 z)))
fold-counted {z} m = subst (λ z. T (in_float binary64 z)) (sym (number_is w64 m tt)) (whole-counted z (omega (arith, m.most)))
