-- Bands of a frame, joined.
use Rattle.std.specs.Prelude.{◌∷◌, ◌++◌, ◌+◌}
use Rattle.algebra.specs.Prelude.{List, [], ℕ}
use Rattle.stacker.specs.Bands.{band}

-- bands one below the other, from row `top` on, of so many rows each
unfoldable pub bands_from : (width top : ℕ) (counts : List ℕ) (frame : List ℕ) → List ℕ
bands_from width top [] frame = []
bands_from width top (rows ∷ counts) frame = band width top rows frame ++ bands_from width (top + rows) counts frame

-- how many rows they have together
unfoldable pub rows_together : (counts : List ℕ) → ℕ
rows_together [] = 0
rows_together (rows ∷ counts) = rows + rows_together counts
