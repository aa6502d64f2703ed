-- Document 01, "(frame index; its tiles; tiles with vector 0,0; greatest absolute part; sum of finest residuals)": what `motion` counts on the vectors of
-- one other frame, a list of their parts.
use Rattle.algebra.specs.Prelude.{cond, List, eqb, length, get_or, ℤ, pos, nat_abs}
use Rattle.std.specs.Prelude.{ℕ, zero, suc, ◌+◌, ◌*◌, ◌/◌, max, ◌&&◌}
use Rattle.algebra.specs.Sums.{sum_n}

-- the absolute value of a part
abbrev pub reach : List ℤ → ℕ → ℕ
reach parts k = nat_abs (get_or parts k (pos 0))

-- "its tiles": each has a vector of two parts, "down, right"
abbrev pub tiles : List ℤ → ℕ
tiles parts = length parts / 2

-- 1 for a tile "with vector 0,0"
unfoldable pub still_tile : List ℤ → ℕ → ℕ
still_tile parts tile = cond (eqb (reach parts (2 * tile)) 0 && eqb (reach parts (2 * tile + 1)) 0) 1 0

-- "tiles with vector 0,0"
unfoldable pub still_tiles : List ℤ → ℕ
still_tiles parts = sum_n (tiles parts) (still_tile parts)

-- the greatest of f 0, .., f (n − 1)
unfoldable pub greatest : ℕ → (ℕ → ℕ) → ℕ
greatest zero f = 0
greatest (suc n) f = max (greatest n f) (f n)

-- "greatest absolute part"
unfoldable pub farthest : List ℤ → ℕ
farthest parts = greatest (length parts) (reach parts)
