-- P of a whole number in double where noise is middle: two sums.
use Rattle.tile_pair32.specs.Prelude.{Float, is_nan, binary64, add, away, middle, middle_bits, WholeDouble, long_half_most}
use Rattle.std.specs.Prelude.{◌≡◌, ◌^◌, ◌≤◌, ◌<◌, ◌+ℤ◌, ◌-ℤ◌}
use Rattle.algebra.specs.Prelude.{sym, ap, ap₂, subst, ◌∙◌, true, false, not, T, lit<, lit≤, ℤ, pos, nat_abs, w64, SFits, to_z, of_z, to_z-of_z}
use native.Mathlib.Nat.{le_trans}
use mir.ValLaws.{to_z_pos}
use Rattle.algebra.specs.Bound.{AtMost, add-fits}
use Rattle.floats.specs.Middle.{nearest-bits, bits_below, sum_number, counts-most}
use Rattle.floats.specs.TwiceLaws.{first_part, second_part, Twice, twice}
use Rattle.tile_spectrum.specs.Lines.Held.{number_is, number-most}
use Rattle.tile_spectrum.specs.RoundingLaws.{away-most}
use Rattle.tile_pair32.specs.Rounded.{first_bits, second_bits, twice_double}

module _ {x : Float} (w : WholeDouble (long_half_most false true) x) where
  both : Twice x (away w.number (2 ^ 31))
  both = subst (λ x. Twice x (away w.number (2 ^ 31))) (sym w.is) (twice w.number (le_trans w.most (lit≤ tt)))

  pub first-number : T (not (is_nan (add binary64 (first_part x) middle)))
  first-number = sum_number both.first_counts

  pub second-number : T (not (is_nan (add binary64 (second_part x) middle)))
  second-number = sum_number both.second_counts

  pub first_below : first_bits x < 2 ^ 63
  unfolding first_bits
  first_below = bits_below both.first_counts

  pub second_below : second_bits x < 2 ^ 63
  unfolding second_bits
  second_below = bits_below both.second_counts

  first_is : pos (first_bits x) -ℤ pos middle_bits ≡ both.first
  unfolding first_bits
  first_is = nearest-bits both.first_counts

  second_is : pos (second_bits x) -ℤ pos middle_bits ≡ both.second
  unfolding second_bits
  second_is = nearest-bits both.second_counts

  pub twice-is : twice_double x ≡ away w.number (2 ^ 31)
  unfolding twice_double
  twice-is = ap₂ ◌+ℤ◌ first_is second_is ∙ both.is

  pub twice_most : AtMost (2 ^ 22) (twice_double x)
  twice_most =
      record { most = subst (λ z. nat_abs z ≤ 2 ^ 22) (sym twice-is) (le_trans (away-most w.number (2 ^ 31) (long_half_most false true) (lit< tt) w.most) (lit≤ tt)) }

  -- as the code holds them
  first-held : to_z w64 (first_bits x) -ℤ pos middle_bits ≡ both.first
  first-held = ap (λ z. z -ℤ pos middle_bits) (to_z_pos w64 (first_bits x) first_below) ∙ first_is

  second-held : to_z w64 (second_bits x) -ℤ pos middle_bits ≡ both.second
  second-held = ap (λ z. z -ℤ pos middle_bits) (to_z_pos w64 (second_bits x) second_below) ∙ second_is

  pub first_most : AtMost (2 ^ 51) (to_z w64 (first_bits x) -ℤ pos middle_bits)
  first_most = record { most = subst (λ z. nat_abs z ≤ 2 ^ 51) (sym first-held) (counts-most both.first_counts) }

  pub second_most : AtMost (2 ^ 51) (to_z w64 (second_bits x) -ℤ pos middle_bits)
  second_most = record { most = subst (λ z. nat_abs z ≤ 2 ^ 51) (sym second-held) (counts-most both.second_counts) }

  abbrev first_held_at : ℤ
  first_held_at = to_z w64 (first_bits x) -ℤ pos middle_bits

  abbrev second_held_at : ℤ
  second_held_at = to_z w64 (second_bits x) -ℤ pos middle_bits

  pub twice-fits : SFits w64 (to_z w64 (of_z w64 first_held_at) +ℤ to_z w64 (of_z w64 second_held_at))
  twice-fits = add-fits w64 _ _ _ _ (number-most w64 first_most tt) (number-most w64 second_most tt) tt

  pub twice-held : to_z w64 (of_z w64 (to_z w64 (of_z w64 first_held_at) +ℤ to_z w64 (of_z w64 second_held_at))) ≡ twice_double x
  twice-held =
      to_z-of_z twice-fits ∙ ap₂ ◌+ℤ◌ (number_is w64 first_most tt ∙ first-held) (number_is w64 second_most tt ∙ second-held) ∙ both.is ∙ sym twice-is
