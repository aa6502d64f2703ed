-- A Bayer square's sum is at most four times the largest sample.
use Rattle.std.specs.Prelude.{◌+◌, ◌*◌, ◌≤◌, ◌<◌}
use Rattle.algebra.specs.Prelude.{ℕ, arith}
use Rattle.geometry.specs.Read.{Image}
use Rattle.align_pyramid.specs.Bayer.Bayer.{bayer_sum}

pub bayer-most : (b : ℕ) (height width : ℕ) (frame : Image) → ((row column : ℕ) → row < 2 * height → column < 2 * width → frame row column ≤ b)
    → (row column : ℕ) → row < height → column < width → bayer_sum frame row column ≤ 4 * b
unfolding bayer_sum
bayer-most b height width frame h row column k l =
    omega (arith, h (2 * row) (2 * column) (omega arith) (omega arith), h (2 * row) (2 * column + 1) (omega arith) (omega arith), h (2 * row + 1) (2 * column) (omega arith) (omega arith), h (2 * row + 1) (2 * column + 1) (omega arith) (omega arith))
