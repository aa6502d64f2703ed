-- Request L11, "How far a ghost can go": how far a merged sample leaves the reference sample, and the noise number that it goes by.
use Rattle.algebra.specs.Prelude.{ℕ, ℤ, nat_abs}
use Rattle.std.specs.Prelude.{max, ◌-◌, ◌*◌, ◌/◌, ◌%◌, ◌≤◌, ◌-ℤ◌}
use Rattle.recipe.specs.Side.{Side}
use Rattle.recipe.specs.Scene.{Scene, noise_over}

-- "the largest noise number .. of the four tiles over it"
abbrev pub largest : (noise : ℕ → ℕ) → ℕ
largest noise = max (max (noise 0) (noise 1)) (max (noise 2) (noise 3))

-- that of the sample at a row and a column of the frame
abbrev pub largest_over : Scene → (row column : ℕ) → ℕ
largest_over s row column = largest (noise_over s (row % 2) (column % 2) (row / 2) (column / 2))

-- by how much "a merged sample differs from the reference sample"
abbrev pub leak : (sample reference : ℤ) → ℕ
leak sample reference = nat_abs (sample -ℤ reference)

-- "at most one step plus half the square root of the largest noise number (in squared samples)": V counts 1/parts² of these, so a leak e is at most
-- 1 + √V/(2·parts), which in whole numbers is e ≤ 1 or (2·parts·(e − 1))² ≤ V. Below 1 there is nothing: e − 1 is 0 where e is 0.
-- 4·parts² is 1024 for side 16
abbrev pub UnderCeiling : Side → (e v : ℕ) → Type 0
UnderCeiling n e v = 4 * (n.parts * n.parts) * ((e - 1) * (e - 1)) ≤ v
