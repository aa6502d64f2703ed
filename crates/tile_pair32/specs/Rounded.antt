-- P of a whole number in double where noise is middle, as the code takes it.
use Rattle.std.specs.Prelude.{◌+ℤ◌, ◌-ℤ◌}
use Rattle.tile_pair32.specs.Prelude.{ℕ, ℤ, pos, Float, binary64, add, to_bits, middle, middle_bits}
use Rattle.floats.specs.TwiceLaws.{first_part, second_part}

-- x over 2^31, from the bits of two sums with 1.5·2^52
unfoldable pub first_bits : Float → ℕ
first_bits x = to_bits binary64 (add binary64 (first_part x) middle)

unfoldable pub second_bits : Float → ℕ
second_bits x = to_bits binary64 (add binary64 (second_part x) middle)

unfoldable pub twice_double : Float → ℤ
twice_double x = (pos (first_bits x) -ℤ pos middle_bits) +ℤ (pos (second_bits x) -ℤ pos middle_bits)
