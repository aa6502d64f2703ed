-- A place of the copy's transform, from those of its parts in double.
use Rattle.std.specs.Prelude.{◌≡◌, ◌*◌, ◌≤◌, ◌+ℤ◌, ◌*ℤ◌}
use Rattle.algebra.specs.Prelude.{sym, ap, ap₂, subst, ◌∙◌, arith, T, ℤ, pos, nat_abs, w64, SFits, to_z, of_z, to_z-of_z}
use lib.Ieee.{Float, binary64, of_int, to_signed, in_signed}
use Rattle.algebra.specs.Bound.{AtMost, lit-most, add-fits, mul_most, mul-fits}
use Rattle.floats.specs.Casts.{whole_back}
use Rattle.tile_spectrum.specs.Lines.Doubles.{WholeDouble}
use Rattle.tile_spectrum.specs.Lines.Held.{number_is, number-most}
use Rattle.tile_spatial.specs.Steps.{place_most, place_of}

module _ {x : Float} (w : WholeDouble place_most x) where
  pub whole-fits : T (in_signed binary64 63 x)
  whole-fits = subst (λ y. T (in_signed binary64 63 y)) (sym w.is) (whole_back w.number (omega (arith, w.most))).0

  whole_is : to_signed 63 x ≡ w.number
  whole_is = ap (to_signed 63) w.is ∙ (whole_back w.number (omega (arith, w.most))).1

  whole-most : AtMost place_most (to_signed 63 x)
  whole-most = record { most = subst (λ z. nat_abs z ≤ place_most) (sym whole_is) w.most }

module _ {a b : Float} (v : WholeDouble place_most a) (w : WholeDouble place_most b) where
  abbrev held : Float → ℤ
  held x = to_z w64 (of_z w64 (to_signed 63 x))

  abbrev product : ℤ
  product = to_z w64 (of_z w64 (pos 4096 *ℤ held a))

  pub product-fits : SFits w64 (pos 4096 *ℤ held a)
  product-fits = mul-fits w64 (pos 4096) (held a) 4096 place_most (lit-most 4096) (number-most w64 (whole-most v) tt) tt

  product-most : AtMost (4096 * place_most) product
  product-most =
      subst (AtMost (4096 * place_most)) (sym (to_z-of_z product-fits)) (mul_most {x = pos 4096} (lit-most 4096) (number-most w64 (whole-most v) tt))

  pub sum_fits : SFits w64 (product +ℤ held b)
  sum_fits = add-fits w64 product (held b) (4096 * place_most) place_most product-most (number-most w64 (whole-most w) tt) tt

  pub sum_is : to_z w64 (of_z w64 (product +ℤ held b)) ≡ place_of a b
  unfolding place_of
  sum_is =
      to_z-of_z sum_fits
      ∙ ap₂ ◌+ℤ◌ (to_z-of_z product-fits ∙ ap (λ z. pos 4096 *ℤ z) (number_is w64 (whole-most v) tt)) (number_is w64 (whole-most w) tt)

-- that is 4096 times the one and the other
pub place_is : (a b : ℤ) → nat_abs a ≤ place_most → nat_abs b ≤ place_most → place_of (of_int binary64 a) (of_int binary64 b) ≡ pos 4096 *ℤ a +ℤ b
unfolding place_of
place_is a b h k = ap₂ (λ x y. pos 4096 *ℤ x +ℤ y) (whole_back a (omega arith)).1 (whole_back b (omega arith)).1
