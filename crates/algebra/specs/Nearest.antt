-- Rounding to nearest, the two ways of document 01.
use Rattle.algebra.specs.Prelude.{ℕ, suc}
use Rattle.std.specs.Prelude.{ℤ, pos, negsuc, neg_ℤ, ◌+ℤ◌, ◌*ℤ◌, ◌+◌, ◌*◌, ◌/◌}
use Rattle.std.specs.Int.Signed.{shr_z}

-- z/m to nearest, halves away from zero: the floor of |z|/m + 1/2, with z's sign
unfoldable pub away : ℤ → ℕ → ℤ
away (pos a) m = pos ((2 * a + m) / (2 * m))
away (negsuc a) m = neg_ℤ (pos ((2 * suc a + m) / (2 * m)))

-- z/m to nearest, halves upward: the floor of z/m + 1/2
unfoldable pub upward : ℤ → ℕ → ℤ
upward z m = shr_z (pos 2 *ℤ z +ℤ pos m) (2 * m)
