-- Inner vocabulary: mirrored columns by their place in a period, which holds a row's columns forward and then backward.
use Rattle.std.specs.Prelude.{◌+◌, ◌-◌, ◌*◌, ◌%◌}
use Rattle.algebra.specs.Prelude.{cond, ℕ, eqb, ℤ, pos, negsuc}

-- the place of a column, inside or outside
unfoldable pub place_in : (size : ℕ) → ℤ → ℕ
place_in size (pos k) = k % (2 * size)
place_in size (negsuc k) = 2 * size - 1 - k % (2 * size)

-- the place behind a place
unfoldable pub next_in : (size place : ℕ) → ℕ
next_in size place = cond (eqb (place + 1) (2 * size)) 0 (place + 1)
