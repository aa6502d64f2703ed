-- Four times two half sums and a width, in 64 bits.
use Rattle.std.specs.Prelude.{◌≡◌, ◌+◌, ◌*◌, ◌^◌, ◌≤◌, ◌+ℤ◌, ◌-ℤ◌, ◌*ℤ◌}
use Rattle.algebra.specs.Prelude.{sym, ap, ap₂, subst, ◌∙◌, false, ℕ, lit≤, ℤ, pos, w64, SFits, to_z, of_z, to_z-of_z}
use native.Mathlib.Nat.{le_trans}
use Rattle.algebra.specs.Bound.{AtMost, lit-most, most_fits, add_most, sub-most, mul_most, add-fits, mul-fits}
use Rattle.tile_spectrum.specs.Lines.Held.{number_is, number-most}
use Rattle.tile_spectrum.specs.Lines.Magnitudes.{half_most}
use Rattle.range_pair.specs.Factors.{width_most}

abbrev held : ℤ → ℤ
held z = to_z w64 (of_z w64 z)

module _ {a b : ℤ} (m : AtMost (half_most false) a) (n : AtMost (half_most false) b) where
  pub both-fits : SFits w64 (held a +ℤ held b)
  both-fits = add-fits w64 _ _ _ _ (number-most w64 m tt) (number-most w64 n tt) tt

  both_is : held (held a +ℤ held b) ≡ a +ℤ b
  both_is = to_z-of_z both-fits ∙ ap₂ ◌+ℤ◌ (number_is w64 m tt) (number_is w64 n tt)

  both_most : AtMost (half_most false + half_most false) (held (held a +ℤ held b))
  both_most = subst (AtMost (half_most false + half_most false)) (sym both_is) (add_most m n)

  pub four-fits : SFits w64 (pos 4 *ℤ held (held a +ℤ held b))
  four-fits = mul-fits w64 (pos 4) (held (held a +ℤ held b)) 4 _ (lit-most 4) both_most tt

  four_is : held (pos 4 *ℤ held (held a +ℤ held b)) ≡ pos 4 *ℤ (a +ℤ b)
  four_is = to_z-of_z four-fits ∙ ap (λ z. pos 4 *ℤ z) both_is

  four-most : AtMost (4 * (half_most false + half_most false)) (pos 4 *ℤ (a +ℤ b))
  four-most = mul_most {x = pos 4} (lit-most 4) (add_most m n)

  module _ {width : ℕ} (l : width ≤ width_most) where
    width-most : AtMost width_most (pos width)
    width-most = record { most = l }

    pub width_fits : SFits w64 (pos width)
    width_fits = most_fits w64 (pos width) width_most width-most tt

    more-most : AtMost (2 ^ 60) (pos 4 *ℤ (a +ℤ b) +ℤ pos width)
    more-most = record { most = le_trans (add_most four-most width-most).most (lit≤ tt) }

    less-most : AtMost (2 ^ 60) (pos 4 *ℤ (a +ℤ b) -ℤ pos width)
    less-most = record { most = le_trans (sub-most four-most width-most).most (lit≤ tt) }

    pub more-is : held (pos 4 *ℤ held (held a +ℤ held b)) +ℤ held (pos width) ≡ pos 4 *ℤ (a +ℤ b) +ℤ pos width
    more-is = ap₂ ◌+ℤ◌ four_is (to_z-of_z width_fits)

    pub less-is : held (pos 4 *ℤ held (held a +ℤ held b)) -ℤ held (pos width) ≡ pos 4 *ℤ (a +ℤ b) -ℤ pos width
    less-is = ap₂ ◌-ℤ◌ four_is (to_z-of_z width_fits)

    pub more-fits : SFits w64 (held (pos 4 *ℤ held (held a +ℤ held b)) +ℤ held (pos width))
    more-fits = subst (SFits w64) (sym more-is) (most_fits w64 _ (2 ^ 60) more-most tt)

    pub less-fits : SFits w64 (held (pos 4 *ℤ held (held a +ℤ held b)) -ℤ held (pos width))
    less-fits = subst (SFits w64) (sym less-is) (most_fits w64 _ (2 ^ 60) less-most tt)

    pub more-held : AtMost (2 ^ 60) (held (held (pos 4 *ℤ held (held a +ℤ held b)) +ℤ held (pos width)))
    more-held = subst (AtMost (2 ^ 60)) (sym (to_z-of_z more-fits ∙ more-is)) more-most

    pub less-held : AtMost (2 ^ 60) (held (held (pos 4 *ℤ held (held a +ℤ held b)) -ℤ held (pos width)))
    less-held = subst (AtMost (2 ^ 60)) (sym (to_z-of_z less-fits ∙ less-is)) less-most
