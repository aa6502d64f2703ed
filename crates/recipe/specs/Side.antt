-- What document 01 fixes with the tile side: the tables of cosines, sines and windows, and the scales of the merge recipe.
use Rattle.std.specs.Prelude.{◌*◌, ◌%◌, ◌<◌}
use Rattle.algebra.specs.Prelude.{ℕ, ℤ}

pub record Side : Type 0 where
  -- a tile is `side` rows of `side` differences, and the next tile lies `half` further on
  pub side : ℕ
  pub half : ℕ
  -- C, S and w at 0..side−1
  pub cosine : ℕ → ℤ
  pub sine : ℕ → ℤ
  pub window : ℕ → ℕ
  -- bins B have this scale
  pub scale : ℕ
  -- Q and G count 1/parts of a sample step, V counts 1/parts² of its square
  pub parts : ℕ
  -- V = t·(Ls·r + side·Lr)/noise_divisor
  pub noise_divisor : ℕ
  -- Q = B/quantum
  pub quantum : ℕ
  -- P = (inverse sum)/divisor
  pub divisor : ℕ
  -- what the products w·w' of the four tiles over a sample add up to
  pub weight : ℕ
  pub side_above : 0 < side
  pub scale_above : 0 < scale
  pub parts_above : 0 < parts
  pub quantum_above : 0 < quantum
  pub divisor_above : 0 < divisor
  pub weight_above : 0 < weight
  pub size_above : 0 < side * side * scale

-- C(k) and S(k), indices modulo the side
unfoldable pub cos_at : Side → ℕ → ℤ
cos_at s k = s.cosine (k % s.side)

unfoldable pub sin_at : Side → ℕ → ℤ
sin_at s k = s.sine (k % s.side)
