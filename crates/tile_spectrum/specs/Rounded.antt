-- P of a whole number in double, as the code takes it.
use Rattle.tile_spectrum.specs.Prelude.{sym, ap, subst, ℕ, arith, T, lit<, lit≤, ℤ, pos, nat_abs, away}
use Rattle.algebra.specs.Prelude.{not, w64, to_z}
use Rattle.std.specs.Prelude.{Float, ◌≡◌, ◌*◌, ◌^◌, ◌≤◌, ◌<◌, ◌-◌, ◌-ℤ◌}
use Rattle.std.specs.Float.{binary64}
use Rattle.std.specs.Float.Ieee.{is_nan, add, mul, to_bits}
use Rattle.std.proofs.lemmas.Int.{to_z_pos}
use Rattle.algebra.specs.Bound.{AtMost}
use Rattle.floats.specs.Middle.{middle, middle_bits}
use Rattle.floats.specs.ProductLaws.{fraction, product-bits, product-bits-below, product-number}
use Rattle.tile_spectrum.specs.Lines.Doubles.{WholeDouble}
use Rattle.tile_spectrum.specs.RoundingLaws.{away-within}

-- x over 2^31, from the bits of its sum with 1.5·2^52
unfoldable pub rounded_bits : Float → ℕ
rounded_bits x = to_bits binary64 (add binary64 (mul binary64 x (fraction 31)) middle)

unfoldable pub rounded_double : Float → ℤ
rounded_double x = pos (rounded_bits x) -ℤ pos middle_bits

-- the largest whole number of which it is P
abbrev pub rounded_most : ℕ
rounded_most = 5 * 2 ^ 49 - 1

-- of a half where noise is low
module _ {m : ℕ} {x : Float} (w : WholeDouble m x) (h : m < 5 * 2 ^ 49) where
  small : nat_abs w.number < 5 * 2 ^ 49
  small = omega (arith, w.most)

  pub rounded-number : T (not (is_nan (add binary64 (mul binary64 x (fraction 31)) middle)))
  rounded-number = rw w.is (product-number w.number 31 small (lit< tt) (lit≤ tt))

  pub rounded-below : rounded_bits x < 2 ^ 63
  unfolding rounded_bits
  rounded-below = rw w.is (product-bits-below w.number 31 small (lit< tt) (lit≤ tt))

  pub rounded-is : rounded_double x ≡ away w.number (2 ^ 31)
  unfolding rounded_bits rounded_double
  rounded-is = rw w.is (product-bits w.number 31 small (lit< tt) (lit≤ tt))

  pub rounded-most : AtMost (2 ^ 21) (rounded_double x)
  rounded-most = record { most = subst (λ z. nat_abs z ≤ 2 ^ 21) (sym rounded-is) (away-within w.number (2 ^ 31) (2 ^ 21) (lit< tt) (omega (arith, small))) }

  -- as the code holds it
  pub rounded-held : to_z w64 (rounded_bits x) -ℤ pos middle_bits ≡ rounded_double x
  unfolding rounded_double
  rounded-held = ap (λ z. z -ℤ pos middle_bits) (to_z_pos w64 (rounded_bits x) rounded-below)
