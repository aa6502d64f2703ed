-- A whole number in double is itself as an i64.
use Rattle.std.specs.Prelude.{◌≡◌, ◌^◌, ◌≤◌}
use Rattle.algebra.specs.Prelude.{arith, T, ℤ, pos, negsuc, nat_abs}
use Rattle.std.proofs.Common.{le→leb, lt→ltb}
use Rattle.std.specs.Float.{binary64}
use Rattle.std.specs.Float.Ieee.{of_int, to_signed, in_signed, in_float}
use Rattle.std.specs.Float.Ieee.Back.{positive_back, negative_back}

pub whole-counted : (z : ℤ) → nat_abs z ≤ 2 ^ 53 → T (in_float binary64 z)
unfolding in_float
whole-counted (pos n) h = le→leb n (2 ^ 53) (omega arith)
whole-counted (negsuc n) h = lt→ltb n (2 ^ 53) (omega arith)

back : (z : ℤ) → nat_abs z ≤ 2 ^ 53 → T (in_float binary64 z) → T (in_signed binary64 63 (of_int binary64 z)) × (to_signed 63 (of_int binary64 z) ≡ z)
back (pos n) h t = positive_back binary64 63 n t (omega arith)
back (negsuc n) h t = negative_back binary64 63 n t (omega arith)

pub whole_back : (z : ℤ) → nat_abs z ≤ 2 ^ 53 → T (in_signed binary64 63 (of_int binary64 z)) × (to_signed 63 (of_int binary64 z) ≡ z)
whole_back z h = back z h (whole-counted z h)
