-- The residual of a tile: how far the other frame, moved by a vector, is from the reference on it.
use Rattle.std.specs.Prelude.{◌+◌, ◌-◌, ◌*◌, ◌+ℤ◌}
use Rattle.algebra.specs.Prelude.{Bool, cond, ℕ, ℤ, pos}
use Rattle.algebra.specs.Sums.{sum_n}
use Rattle.align_residual.specs.declared.Tile.{Tile}
use Rattle.geometry.specs.declared.vectors.Vector.{Vector}

-- |a − b|
abbrev pub gap : ℕ → ℕ → ℕ
gap a b = (a - b) + (b - a)

-- "squared differences at levels 3 to 1, absolute at level 0"
unfoldable pub difference : (squared : Bool) → ℕ → ℕ → ℕ
difference squared a b = cond squared (gap a b * gap a b) (gap a b)

-- the two images of a level that are compared: their size, and each as it is read, inside and outside
pub record Pair : Type 0 where
  pub height : ℕ
  pub width : ℕ
  pub reference : ℤ → ℤ → ℕ
  pub other : ℤ → ℤ → ℕ

-- the sum of differences of a tile's row
unfoldable pub row_residual : (squared : Bool) → Pair → Tile → Vector → ℕ → ℕ
row_residual squared p t v i =
    sum_n t.side
    (λ j.
    difference squared (p.reference (t.origin.down +ℤ pos i) (t.origin.right +ℤ pos j))
    (p.other (t.origin.down +ℤ pos i +ℤ v.down) (t.origin.right +ℤ pos j +ℤ v.right)))

-- the sum of differences of the whole tile
unfoldable pub residual : (squared : Bool) → Pair → Tile → Vector → ℕ
residual squared p t v = sum_n t.side (row_residual squared p t v)
