-- Inner vocabulary: squares of samples in local arrays: a square's rows stand one after the other.
use Rattle.std.specs.Prelude.{◌≡◌, ◌+◌, ◌*◌, ◌≤◌, ◌<◌}
use Rattle.algebra.specs.Prelude.{Bool, true, List, ℕ, length, get_or}
use Rattle.algebra.specs.Sums.{sum_n}
use Rattle.align_pyramid.specs.Halving.Magnitudes.{value_most}
use Rattle.align_residual.specs.Magnitudes.{squared_row_most}
use Rattle.align_residual.specs.Residual.{gap, difference}

-- the sum of differences of `side` samples, those of the tile from `a` on and of the window from `b` on
unfoldable pub row_sum : (squared : Bool) → (tile window : List ℕ) → (a b side : ℕ) → ℕ
row_sum squared tile window a b side = sum_n side (λ j. difference squared (get_or tile (a + j) 0) (get_or window (b + j) 0))

-- that of a tile's row i, and the window's from `start` on, whose rows stand `stride` apart
unfoldable pub square_row : (squared : Bool) → (tile window : List ℕ) → (start stride side i : ℕ) → ℕ
square_row squared tile window start stride side i = row_sum squared tile window (i * side) (start + i * stride) side

-- the sum over the tile's rows
unfoldable pub square_sum : (squared : Bool) → (tile window : List ℕ) → (start stride side : ℕ) → ℕ
square_sum squared tile window start stride side = sum_n side (square_row squared tile window start stride side)

-- the first n values are there and a level's: small enough for sums in few bits
pub record Low (l : List ℕ) (n : ℕ) : Type 0 where
  pub room : n ≤ length l
  pub most : (k : ℕ) → k < n → get_or l k 0 ≤ value_most

-- the first m values of a tile's array are, and the first n of a window's
pub record Compared (tile window : List ℕ) (m n : ℕ) : Type 0 where
  pub tile_low : Low tile m
  pub window_low : Low window n

-- the sum of f over four pairs of samples one under the other, those of a tile of side 16 from `a` on and of the window from `b` on
abbrev pub column_sum : (f : ℕ → ℕ → ℕ) → (tile window : List ℕ) → (a b stride : ℕ) → ℕ
column_sum f tile window a b stride =
    f (get_or tile a 0) (get_or window b 0) + f (get_or tile (a + 16) 0) (get_or window (b + stride) 0) + f (get_or tile (a + 32) 0) (get_or window (b + 2 * stride) 0) + f (get_or tile (a + 48) 0) (get_or window (b + 3 * stride) 0)

-- the sum of f over all pairs of a tile of side 16 and the window from `start` on
unfoldable pub pair_sum : (f : ℕ → ℕ → ℕ) → (tile window : List ℕ) → (start stride : ℕ) → ℕ
pair_sum f tile window start stride = sum_n 16 (λ i. sum_n 16 (λ j. f (get_or tile (i * 16 + j) 0) (get_or window (start + i * stride + j) 0)))

-- the distances of two pairs of samples, eight apart in their rows
abbrev pub beside_sum : (tile window : List ℕ) → (a b : ℕ) → ℕ
beside_sum tile window a b = gap (get_or tile a 0) (get_or window b 0) + gap (get_or tile (a + 8) 0) (get_or window (b + 8) 0)

-- the sums of squares of two rows of a tile, the upper from `a` on, and the window's, 8 wider, the upper from `b` on
pub record SquaredRows (side : ℕ) (tile window : List ℕ) (a b upper lower : ℕ) : Type 0 where
  pub upper_is : upper ≡ row_sum true tile window a b side
  pub lower_is : lower ≡ row_sum true tile window (a + side) (b + side + 8) side
  pub upper_most : upper ≤ squared_row_most
  pub lower_most : lower ≤ squared_row_most
