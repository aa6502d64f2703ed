-- Inside this crate: the squares of a pair of tiles by their places in a row. Place 2·j + p is column j of plane p.
use Rattle.std.specs.Prelude.{◌%◌}
use Rattle.tile_root.specs.Prelude.{cond, List, ℕ, eqb, get_or, sum_n, tab, cell, squared}

-- the black level at place l
unfoldable pub lane_black : (first second l : ℕ) → ℕ
lane_black first second l = cond (eqb (l % 2) 0) first second

-- the squares of the first n rows of w places, added up at each place
unfoldable pub lanes : (w n : ℕ) → List ℕ → List (List ℕ) → List ℕ
lanes w n black tile = tab w (λ l. sum_n n (λ i. squared (get_or black l 0) (cell 0 tile i l)))
