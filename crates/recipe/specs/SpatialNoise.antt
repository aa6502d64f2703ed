-- The noise number V' of a bin for the spatial filter of request L13.
use Rattle.std.specs.Prelude.{◌+◌, ◌-◌, ◌*◌, ◌/◌}
use Rattle.algebra.specs.Prelude.{cond, ℕ, ltb}
use Rattle.recipe.specs.Side.{Side}
use Rattle.recipe.specs.Root.{whole_root}
use Rattle.recipe.specs.NoiseNumber.{variance}

-- "u and v are bin indices, those above 8 counted as 16 minus themselves"
unfoldable pub frequency : ℕ → ℕ
frequency u = cond (ltb 8 u) (16 - u) u

-- "m is the whole root of 256·(u²+v²)"
unfoldable pub distance : ℕ → ℕ → ℕ
distance u v = whole_root (256 * (frequency u * frequency u + frequency v * frequency v))

-- "V' = floor(s·m·(Ls·r+16·Lr)/(16384·N))", in bin (u, v) of side 16
unfoldable pub spatial_number : Side → (s ls lr r frames u v : ℕ) → ℕ
spatial_number n s ls lr r frames u v = s * distance u v * variance n ls lr r / (16384 * frames)
