-- The root r of a tile and its noise number V.
use Rattle.std.specs.Prelude.{ℕ, ◌+◌, ◌-◌, ◌*◌, ◌/◌}
use Rattle.algebra.specs.Sums.{sum_n}
use Rattle.recipe.specs.Side.{Side}
use Rattle.recipe.specs.Root.{whole_root}

-- what r squares of a sample: "each reference sample counts as the amount by which it exceeds its plane's black, or 0" (request L3)
abbrev pub intensity : (black sample : ℕ) → ℕ
intensity black sample = sample - black

abbrev pub squared : (black sample : ℕ) → ℕ
squared black sample = intensity black sample * intensity black sample

-- "the sum of T0 squared", for a tile of n rows of n samples on a plane of that black level
unfoldable pub sum_of_squares : (n black : ℕ) → (ℕ → ℕ → ℕ) → ℕ
sum_of_squares n black tile = sum_n n (λ i. sum_n n (λ j. squared black (tile i j)))

-- "r = floor of the root of the sum of T0 squared: the RMS in sixteenths", where n is 16
unfoldable pub tile_root : (n black : ℕ) → (ℕ → ℕ → ℕ) → ℕ
tile_root n black tile = whole_root (sum_of_squares n black tile)

-- "Ls·r + 16·Lr" for side 16: the variance shot · RMS + read, in 1/(1024·side)
unfoldable pub variance : Side → (ls lr r : ℕ) → ℕ
variance n ls lr r = ls * r + n.side * lr

-- "V = floor(t·(Ls·r + 16·Lr)/16), the source's cσ² in 1/256" for side 16
unfoldable pub noise_number : Side → (t ls lr r : ℕ) → ℕ
noise_number n t ls lr r = t * variance n ls lr r / n.noise_divisor
