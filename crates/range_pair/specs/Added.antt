-- Inside the crates of the range: what the kernels of both ends are lent, and what they leave in the two pairs of sums.
use Rattle.std.specs.Prelude.{◌≡◌, ◌/◌, ◌%◌, ◌^◌, ◌≤◌, ◌+ℤ◌}
use Rattle.range_pair.specs.Prelude.{List, ℕ, false, length, get_or, ℤ, pos, Float, tab, grid, cell, Side, side16, greatest_at, least_at, LineMost, TileMost, difference_most, column_most, noise_most, Paired, InDouble, plane_in, either}
use Rattle.range_pair.specs.declared.Noises.{Noises}
use Rattle.range_pair.specs.Factors.{WidthLine, WidthTile, greatest_of, least_of, half_in, half_of}

-- ---- what is lent

-- a row of sums with room for one more P
pub record RowSums (r : List ℤ) : Type 0 where
  pub most : LineMost (2 ^ 40) r
  pub long : length r ≡ 32

-- a pair of tiles of such sums
pub record PairSums (t : List (List ℤ)) : Type 0 where
  pub most : TileMost (2 ^ 40) t
  pub paired : Paired (pos 0) t

-- both planes' noise numbers are in range
pub record NoisesFit (v : Noises) : Type 0 where
  pub first_most : v.first ≤ noise_most
  pub second_most : v.second ≤ noise_most

-- a row of either end in range, their widths, and both rows of sums
pub record RowsLent {A : Type 0} (InRange : List A → Type 0) (low high : List A) (widths : List ℕ) (greatest least : List ℤ) : Type 0 where
  pub low_in : InRange low
  pub high_in : InRange high
  pub widths_most : WidthLine widths
  pub greatests : RowSums greatest
  pub leasts : RowSums least

-- the sums back down the columns of either end, their widths, and both pairs of sums
pub record TilesLent (low high : List (List Float)) (widths : List (List ℕ)) (greatest least : List (List ℤ)) : Type 0 where
  pub low_in : InDouble (column_most false) low
  pub high_in : InDouble (column_most false) high
  pub widths_most : WidthTile widths
  pub greatests : PairSums greatest
  pub leasts : PairSums least

-- a pair of tiles of differences, its planes' noise numbers at both ends, and both pairs of sums
pub record EndsLent (d : List (List ℤ)) (lower upper : Noises) (greatest least : List (List ℤ)) : Type 0 where
  pub differences : TileMost difference_most d
  pub lower_fits : NoisesFit lower
  pub upper_fits : NoisesFit upper
  pub greatests : PairSums greatest
  pub leasts : PairSums least

-- ---- what is left

-- sums s with p added: a row, and a pair of tiles
abbrev pub row_plus : (s : List ℤ) (p : ℕ → ℤ) → List ℤ
row_plus s p = tab 32 (λ l. get_or s l (pos 0) +ℤ p l)

abbrev pub pair_plus : (s : List (List ℤ)) (p : ℕ → ℕ → ℤ) → List (List ℤ)
pair_plus s p = grid 16 32 (λ y l. cell (pos 0) s y l +ℤ p y l)

-- P of one end from half of both inverse sums and the width: `greatest_of` or `least_of`
abbrev pub EndOf : Type 0
EndOf = (a b : ℤ) (width : ℕ) → ℤ

-- along rows of halves, along rows in double and over tiles in double; widths repeat after eight columns and after eight rows
abbrev pub half_end : (a b : List ℤ) (widths : List ℕ) → EndOf → ℕ → ℤ
half_end a b widths end l = end (get_or a l (pos 0)) (get_or b l (pos 0)) (get_or widths (l % 16) 0)

abbrev pub line_end : (low high : List Float) (widths : List ℕ) → EndOf → ℕ → ℤ
line_end low high widths end l = end (half_in low l) (half_in high l) (get_or widths (l % 16) 0)

abbrev pub tile_end : (low high : List (List Float)) (widths : List (List ℕ)) → EndOf → ℕ → ℕ → ℤ
tile_end low high widths end y l = end (half_of low y l) (half_of high y l) (cell 0 widths (y % 8) (l % 16))

-- both rows of sums have their end's P added
pub record RowsAdded (p : EndOf → ℕ → ℤ) (greatest greatest' least least' : List ℤ) : Type 0 where
  pub greatest_is : greatest' ≡ row_plus greatest (p greatest_of)
  pub least_is : least' ≡ row_plus least (p least_of)

-- and both pairs
pub record TilesAdded (p : EndOf → ℕ → ℕ → ℤ) (greatest greatest' least least' : List (List ℤ)) : Type 0 where
  pub greatest_is : greatest' ≡ pair_plus greatest (p greatest_of)
  pub least_is : least' ≡ pair_plus least (p least_of)

-- the noise number of plane p
abbrev pub noise_of : Noises → (p : ℕ) → ℕ
noise_of v p = either v.first v.second p

-- P of one end by the recipe, over a side: `greatest_at` or `least_at` (range/Range)
abbrev pub EndAt : Type 0
EndAt = Side → (lower upper : ℕ) (d : ℕ → ℕ → ℤ) → ℕ → ℕ → ℤ

-- of a pair of tiles of differences, each plane between its noise numbers
abbrev pub pair_end : (d : List (List ℤ)) (lower upper : Noises) → EndAt → ℕ → ℕ → ℤ
pair_end d lower upper end y l = end side16 (noise_of lower (l % 2)) (noise_of upper (l % 2)) (plane_in (cell (pos 0) d) (l % 2)) y (l / 2)

-- both pairs of sums have it added
pub record EndsAdded (d : List (List ℤ)) (lower upper : Noises) (greatest greatest' least least' : List (List ℤ)) : Type 0 where
  pub greatest_is : greatest' ≡ pair_plus greatest (pair_end d lower upper greatest_at)
  pub least_is : least' ≡ pair_plus least (pair_end d lower upper least_at)
