-- Inside the crate: the sizes of the inverse's factors at side 16, and widths by tables of them.
use Rattle.std.specs.Prelude.{◌+◌, ◌*◌, ◌/◌, ◌%◌, ◌^◌, ◌≤◌, ◌<◌, ◌+ℤ◌, ◌-ℤ◌, ◌*ℤ◌}
use Rattle.range_pair.specs.Prelude.{cond, List, [], ℕ, eqb, get_or, ℤ, pos, nat_abs, shr_z, Float, nan, to_signed, away, sum_n, grid, cell, cosine16, sine16, half_sum, apart, tile_re, tile_im, lines_in}

-- ---- the factors

-- |Re| and |Im| of (C(i) + i·S(i))·(C(j) + i·S(j))
abbrev pub factor_re : (i j : ℕ) → ℕ
factor_re i j = nat_abs (cosine16 i *ℤ cosine16 j -ℤ sine16 i *ℤ sine16 j)

abbrev pub factor_im : (i j : ℕ) → ℕ
factor_im i j = nat_abs (cosine16 i *ℤ sine16 j +ℤ sine16 i *ℤ cosine16 j)

-- their sum is at most this
abbrev pub factor_most : ℕ
factor_most = 379633849

-- a table of them: |Re| of (i, j) at place 2·j of line i, and |Im| behind it
abbrev pub factor_at : (i l : ℕ) → ℕ
factor_at i l = cond (eqb (l % 2) 0) (factor_re i (l / 2)) (factor_im i (l / 2))

pub record Factored (f : List ℕ) : Type 0 where
  pub at : (j : ℕ) → j < 8 → get_or f (2 * j) 0 + get_or f (2 * j + 1) 0 ≤ factor_most

pub record FactoredTile (f : List (List ℕ)) : Type 0 where
  pub line : (i : ℕ) → i < 8 → Factored (get_or f i [])

-- ---- distances of both G, in columns 0 to 8

-- a place of one folded G less that of the other
abbrev pub place_apart : (a b : Float) → ℤ
place_apart a b = to_signed 63 a -ℤ to_signed 63 b

-- at most this: two numbers of a folded G. And a bin from two of these
abbrev pub apart_most : ℕ
apart_most = 1056612

-- how often a part of bin (u, v) counts: once more where the fold has it once, and for the mirror image
unfoldable pub times_at : (u v : ℕ) → ℕ
times_at u v = apart u 2 1 * apart v 1 2

-- both parts of bin u of lane l, from places w
unfoldable pub distance_re : (w : List (List ℤ)) (u l : ℕ) → ℕ
distance_re w u l = times_at u (l / 2) * nat_abs (tile_re (lines_in w (l % 2)) u (l / 2))

unfoldable pub distance_im : (w : List (List ℤ)) (u l : ℕ) → ℕ
distance_im w u l = times_at u (l / 2) * nat_abs (tile_im (lines_in w (l % 2)) u (l / 2))

abbrev pub distance_most : ℕ
distance_most = 8 * apart_most

pub record Distant (a : List ℕ) : Type 0 where
  pub at : (l : ℕ) → get_or a l 0 ≤ distance_most

pub record DistantTile (a : List (List ℕ)) : Type 0 where
  pub line : (u : ℕ) → Distant (get_or a u [])

-- ---- widths

-- the distances of a line of bins of plane p, each times its factor, at column x
unfoldable pub line_width : (f re im : List ℕ) (x p : ℕ) → ℕ
line_width f re im x p =
    sum_n 9 (λ v. get_or f (2 * ((v * x) % 8)) 0 * get_or re (2 * v + p) 0 + get_or f (2 * ((v * x) % 8) + 1) 0 * get_or im (2 * v + p) 0)

-- and of all lines at row y and lane l
unfoldable pub pair_width : (f re im : List (List ℕ)) (y l : ℕ) → ℕ
pair_width f re im y l = sum_n 16 (λ u. line_width (get_or f ((u * y) % 8) []) (get_or re u []) (get_or im u []) (l / 2) (l % 2))

-- of a bin, of a line and of a pair
abbrev pub bin_width_most : ℕ
bin_width_most = factor_most * distance_most

abbrev pub line_width_most : ℕ
line_width_most = 9 * bin_width_most

abbrev pub width_most : ℕ
width_most = 16 * line_width_most

pub record WidthLine (w : List ℕ) : Type 0 where
  pub at : (l : ℕ) → get_or w l 0 ≤ width_most

pub record WidthTile (w : List (List ℕ)) : Type 0 where
  pub line : (y : ℕ) → WidthLine (get_or w y [])

-- from both folded G, in double
abbrev pub places_apart : (low high : List (List Float)) → List (List ℤ)
places_apart low high = grid 16 32 (λ b l. place_apart (cell nan low b l) (cell nan high b l))

unfoldable pub width_in : (low high : List (List Float)) (y l : ℕ) → ℕ
width_in low high = pair_width (grid 8 16 factor_at) (grid 16 18 (distance_re (places_apart low high))) (grid 16 18 (distance_im (places_apart low high)))

-- ---- P

-- of a quarter of z
abbrev pub quarter_of : ℤ → ℤ
quarter_of z = away (shr_z z 4) (2 ^ 32)

-- of the greatest and of the least sum, from half of both inverse sums and the width
unfoldable pub greatest_of : (a b : ℤ) (width : ℕ) → ℤ
greatest_of a b width = quarter_of (pos 4 *ℤ (a +ℤ b) +ℤ pos width)

unfoldable pub least_of : (a b : ℤ) (width : ℕ) → ℤ
least_of a b width = quarter_of (pos 4 *ℤ (a +ℤ b) -ℤ pos width)

-- a row of half sums, of a row of numbers in double
unfoldable pub half_in : (x : List Float) (l : ℕ) → ℤ
half_in x l = half_sum (λ k. to_signed 63 (get_or x (2 * k + l % 2) nan)) (l / 2)

-- and all rows of them
abbrev pub half_of : (t : List (List Float)) (y l : ℕ) → ℤ
half_of t y l = half_in (get_or t y []) l
