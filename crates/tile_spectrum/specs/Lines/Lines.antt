-- Bounds of lines and of tiles of numbers, and their lengths.
use Rattle.std.specs.Prelude.{◌≡◌, ◌≤◌}
use Rattle.algebra.specs.Prelude.{List, [], ℕ, get_or, ℤ, pos, nat_abs}
use Rattle.sequences.specs.Grid.{grid, cell}

-- each number of the line is at most b, as an absolute value
pub record LineMost (b : ℕ) (x : List ℤ) : Type 0 where
  pub at : (i : ℕ) → nat_abs (get_or x i (pos 0)) ≤ b

-- and so is each of the tile
pub record TileMost (b : ℕ) (t : List (List ℤ)) : Type 0 where
  pub line : (u : ℕ) → LineMost b (get_or t u [])

-- sixteen lines of sixteen numbers
pub record Square (t : List (List ℤ)) : Type 0 where
  pub is : t ≡ grid 16 16 (cell (pos 0) t)
