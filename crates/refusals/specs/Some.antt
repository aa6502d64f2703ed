-- A test of many values.
use Rattle.std.specs.Prelude.{◌||◌}
use Rattle.algebra.specs.Prelude.{Bool, false, ℕ, zero, suc}

-- one of f 0, .., f (n − 1) holds
unfoldable pub some : ℕ → (ℕ → Bool) → Bool
some zero f = false
some (suc n) f = some n f || f n
