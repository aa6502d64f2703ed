-- What the floor of a float asks of it. Inner vocabulary.
use Rattle.algebra.specs.Prelude.{Bool, false, not, ℕ, eqb, leb}
use Rattle.std.specs.Prelude.{Float, ◌&&◌, ◌||◌, ◌*◌}
use Rattle.std.specs.Float.{nan, inf, fin}
use Rattle.std.specs.Float.Ieee.{up, down}

-- the value is from 0 to k
abbrev pub within : ℕ → Float → Bool
within k nan = false
within k (inf s) = false
within k (fin s m e) = (not s || eqb m 0) && leb (m * up e) (k * down e)
