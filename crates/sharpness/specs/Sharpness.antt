-- Sharpness, and the frame that is chosen by it: request L1.
use Rattle.std.specs.Prelude.{◌+◌, ◌-◌, ◌/◌}
use Rattle.sharpness.specs.Prelude.{List, ℕ, ltb, min, sum_n, Shape, Image, sample_at, plane_of}
use Rattle.sequences.specs.Least.{first_by}

-- "absolute steps": |a − b|
abbrev pub step : ℕ → ℕ → ℕ
step a b = (a - b) + (b - a)

-- the steps from a row's places, each to the one so far down and right, "inside the plane only"
unfoldable pub row_steps : (width down right : ℕ) → Image → (row : ℕ) → ℕ
row_steps width down right plane row = sum_n (width - right) (λ column. step (plane row column) (plane (row + down) (column + right)))

-- those of all rows
unfoldable pub steps : (height width down right : ℕ) → Image → ℕ
steps height width down right plane = sum_n (height - down) (row_steps width down right plane)

-- "the green plane of row parity 0 and column parity 1"
abbrev pub green : Shape → List ℕ → (frame : ℕ) → Image
green s samples frame = plane_of (sample_at s samples frame) 0 1

-- "Sharpness is the sum, over the green plane [..], of the absolute steps to the right neighbour and to the one below"
unfoldable pub sharpness : Shape → List ℕ → (frame : ℕ) → ℕ
sharpness s samples frame =
    steps (s.height / 2) (s.width / 2) 0 1 (green s samples frame) + steps (s.height / 2) (s.width / 2) 1 0 (green s samples frame)

-- the place among 0 .. n at which f is greatest: "A tie goes to the lower index."
abbrev pub first_max : (ℕ → ℕ) → ℕ → ℕ
first_max f n = first_by (λ a b. ltb b a) f n

-- "the sharpest of the first three frames, or of both when there are two"; of one, 0
unfoldable pub sharpest : Shape → List ℕ → ℕ
sharpest s samples = first_max (sharpness s samples) (min s.count 3 - 1)
