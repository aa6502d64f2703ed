-- Halving an image: document 01, "Pyramid and vectors".
use Rattle.std.specs.Prelude.{◌+◌, ◌*◌, ◌/◌, ◌-ℤ◌}
use Rattle.algebra.specs.Prelude.{ℕ, ℤ, pos}
use Rattle.geometry.specs.Read.{Image, read}

-- "weights 1 3 3 1"
abbrev pub weights : (a b c d : ℕ) → ℕ
weights a b c d = a + 3 * b + 3 * c + d

-- "at 2p−1..2p+2": the place number k of four
unfoldable pub tap : (p k : ℕ) → ℤ
tap p k = pos (2 * p + k) -ℤ pos 1

-- the sum of the values there, weighted
unfoldable pub weighted : ℕ → (ℤ → ℕ) → ℕ
weighted p value = weights (value (tap p 0)) (value (tap p 1)) (value (tap p 2)) (value (tap p 3))

-- "Halving: weights 1 3 3 1 at 2p−1..2p+2 in each direction, then floor((sum+32)/64)." The image has the height and the width.
unfoldable pub halved : (height width : ℕ) → Image → Image
halved height width image row column = (weighted row (λ y. weighted column (read height width image y)) + 32) / 64
