-- The vector of a level's tile: at level 3 from no motion, at a finer level from the coarse vectors around it.
use Rattle.align_level.specs.Prelude.{ℕ, zero, suc, Level, finest_level, level1, level2, level3, Step, origin, own, neighbour, capped, VectorField, Tile, Vector, still, ◌times◌, Pair, best_vector, guessed}

-- the levels by number, with level 0's tiles of a side
abbrev pub level_at : (side : ℕ) → ℕ → Level
level_at side zero = finest_level side
level_at side (suc zero) = level1
level_at side (suc (suc zero)) = level2
level_at side (suc (suc (suc k))) = level3

-- "Tiles have side 16 (8 at level 3) and half step s = 8 (4). Indices run from 0 to ceil(size/s), origin −s + s·index, both ways."
unfoldable pub level_tile : Level → (row column : ℕ) → Tile
level_tile l row column = record { side = l.side; origin = record { down = origin l.half row; right = origin l.half column } }

-- "At level 3 the guess is (0,0)."
unfoldable pub coarsest : Level → Pair → VectorField
coarsest l p row column = best_vector l.squared p (level_tile l row column) still

-- "Three candidates, their vectors times f: own; neighbour sideways; neighbour vertically": the guess from a coarse field of so many rows and columns
unfoldable pub from_coarse : Step → (rows columns : ℕ) → Pair → Tile → VectorField → (row column : ℕ) → Vector
from_coarse s rows columns p t coarse row column =
    let own_row = capped rows (own s.quotient row) in
    let nextRow = capped rows (neighbour s.quotient row) in
    let ownColumn = capped columns (own s.quotient column) in
    let nextColumn = capped columns (neighbour s.quotient column) in
    guessed p t (coarse own_row ownColumn times s.factor) (coarse own_row nextColumn times s.factor) (coarse nextRow ownColumn times s.factor)

-- a finer level's field
unfoldable pub finer : Level → Step → (rows columns : ℕ) → Pair → VectorField → VectorField
finer l s rows columns p coarse row column =
    best_vector l.squared p (level_tile l row column) (from_coarse s rows columns p (level_tile l row column) coarse row column)
