-- The exact merge of document 01 on a burst: "takes the same r, V and vectors and does the other steps in fractions".
use Rattle.std.specs.Prelude.{◌/◌, ◌%◌}
use Rattle.algebra.specs.Prelude.{ℕ, pos}
use Rattle.algebra.specs.Fraction.{Frac}
use Rattle.geometry.specs.Read.{plane_of}
use Rattle.recipe.specs.Scene.{Scene, noise_over, difference_over, tiles_over}
use Rattle.recipe.specs.Exact.{exact_sample}
use Rattle.recipe.specs.ExactSpatial.{exact_filtered_sample}

-- its sample at row y and column x of a plane
unfoldable pub plane_exact : Scene → (rowParity columnParity y x : ℕ) → Frac
plane_exact s rowParity columnParity y x =
    exact_sample s.side (y % s.side.half) (x % s.side.half) s.others (noise_over s rowParity columnParity y x) (difference_over s rowParity columnParity y x)
    (pos (plane_of s.reference rowParity columnParity y x))

-- and at a row and a column of the frame
unfoldable pub exact_at : Scene → (row column : ℕ) → Frac
exact_at s row column = plane_exact s (row % 2) (column % 2) (row / 2) (column / 2)

-- The exact filtered merge of request L13: its sample at row y and column x of a plane, and at a row and a column of the frame
unfoldable pub plane_exact_filtered : Scene → (rowParity columnParity y x : ℕ) → Frac
plane_exact_filtered s rowParity columnParity y x =
    exact_filtered_sample s.side (y % s.side.half) (x % s.side.half) s.others (tiles_over s rowParity columnParity y x)
    (pos (plane_of s.reference rowParity columnParity y x))

unfoldable pub exact_filtered_at : Scene → (row column : ℕ) → Frac
exact_filtered_at s row column = plane_exact_filtered s (row % 2) (column % 2) (row / 2) (column / 2)
