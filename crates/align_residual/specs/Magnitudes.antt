-- How large sums over tiles of side 8 and 16 are, whose values are at most `value_most` (align_pyramid/Halving/Magnitudes).
use Rattle.std.specs.Prelude.{ℕ}

-- a square of two values' difference: 16380²
abbrev pub square_most : ℕ
square_most = 268304400

-- what 64 numbers of 16 bits add up to at most: 64 · 65535
abbrev pub total_most : ℕ
total_most = 4194240

-- a residual by squared differences: 256 · 16380²
abbrev pub residual_most : ℕ
residual_most = 68685926400

-- a row of squares: 16 · 16380²
abbrev pub squared_row_most : ℕ
squared_row_most = 4292870400

-- four distances
abbrev pub four_most : ℕ
four_most = 65520

-- what eight numbers of 16 bits add up to at most: 8 · 65535
abbrev pub pair_most : ℕ
pair_most = 524280
