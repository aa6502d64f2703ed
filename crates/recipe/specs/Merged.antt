-- The merged frame of document 01.
use Rattle.std.specs.Prelude.{◌*◌, ◌/◌, ◌%◌}
use Rattle.algebra.specs.Prelude.{List, ℕ, ℤ, pos, nat_abs}
use Rattle.sequences.specs.Tab.{tab}
use Rattle.geometry.specs.Read.{plane_of}
use Rattle.recipe.specs.Scene.{Scene, tiles_over}
use Rattle.recipe.specs.Spatial.{filtered_sample}

-- "Output = T0 − (sum over four tiles and the other frames of w·w'·P)/(2^32·N), to nearest, halves upward, held to 0..4095", with the spatial filter of request L13,
-- at row y and column x of a plane. At s = 0 that is document 01's own sample (`plain-output`, closeness/Spatial/PlainLaws)
unfoldable pub plane_output : Scene → (rowParity columnParity y x : ℕ) → ℤ
plane_output s rowParity columnParity y x =
    filtered_sample s.side (y % s.side.half) (x % s.side.half) s.others (tiles_over s rowParity columnParity y x)
    (pos (plane_of s.reference rowParity columnParity y x))

-- its word at a row and a column of the frame, "by parity of row and column"
unfoldable pub output_at : Scene → (row column : ℕ) → ℤ
output_at s row column = plane_output s (row % 2) (column % 2) (row / 2) (column / 2)

-- the frame, "row by row": its word k, and the whole
unfoldable pub word_at : Scene → (k : ℕ) → ℕ
word_at s k = nat_abs (output_at s (k / s.width) (k % s.width))

unfoldable pub merged : Scene → List ℕ
merged s = tab (s.width * s.height) (word_at s)
