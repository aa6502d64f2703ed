-- Inner vocabulary: halving by columns first, which the code does.
use Rattle.std.specs.Prelude.{◌≤◌}
use Rattle.algebra.specs.Prelude.{ℕ}
use Rattle.geometry.specs.Read.{Image, inside}
use Rattle.align_pyramid.specs.Halving.Magnitudes.{column_most}
use Rattle.align_pyramid.specs.Halving.Halving.{tap, weighted}

-- the values of one column around a row, weighted: the halving is the weighted sum of four of these as well (`halved-columns`)
unfoldable pub column_sum : (height : ℕ) → Image → (row column : ℕ) → ℕ
column_sum height image row column = weighted row (λ y. image (inside height y) column)

-- the same of column k − 1, or of the nearest
abbrev pub edged_sum : (height width : ℕ) → Image → (row k : ℕ) → ℕ
edged_sum height width image row k = column_sum height image row (inside width (tap 0 k))

-- four numbers that are no larger than such sums
pub record FourSums (a b c d : ℕ) : Type 0 where
  pub first : a ≤ column_most
  pub second : b ≤ column_most
  pub third : c ≤ column_most
  pub fourth : d ≤ column_most
