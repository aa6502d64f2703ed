-- Inside the crates of the merge: two tiles side by side, those of column parity 0 and 1 at one place of one row parity. Place 2·x + p of a row is column x of
-- plane p, so that a row of the pair is thirty-two samples of the frame one after the other.
use Rattle.tile_spectrum.specs.Prelude.{cond, List, ℕ, eqb, ℤ, pos, nat_abs, away, Side, side16, correction_at}
use Rattle.std.specs.Prelude.{Float, ◌≡◌, ◌+◌, ◌*◌, ◌/◌, ◌%◌, ◌^◌, ◌≤◌, ◌<◌, ◌+ℤ◌}
use Rattle.std.specs.Float.{binary64}
use Rattle.std.specs.Float.Ieee.{of_int}
use Rattle.sequences.specs.Grid.{grid, cell}
use Rattle.tile_spectrum.specs.Magnitudes.{bin_most}
use Rattle.tile_spectrum.specs.Spectrum.{tile_re, tile_im, transposed, two_way_of, folded_gain, back_sum_of}

-- plane p of a pair
abbrev pub plane_in : {A : Type 0} → (t : ℕ → ℕ → A) (p : ℕ) → ℕ → ℕ → A
plane_in t p y x = t y (2 * x + p)

-- two planes as a pair
abbrev pub side_by_side : {A : Type 0} → (f : ℕ → ℕ → ℕ → A) → ℕ → ℕ → A
side_by_side f y l = f (l % 2) y (l / 2)

-- what goes with plane p
abbrev pub either : {A : Type 0} → (first second : A) (p : ℕ) → A
either first second p = cond (eqb p 0) first second

-- two planes as a pair, held by columns
abbrev pub by_columns : (t : ℕ → ℕ → ℕ → ℤ) → ℕ → ℕ → ℤ
by_columns t = side_by_side (λ p. transposed (t p))

-- ---- pairs of tiles of any side

-- B of plane p of a pair of differences
abbrev pub plane_bins : Side → (d : List (List ℤ)) (p : ℕ) → ℕ → ℕ → ℤ
plane_bins s d p = two_way_of s (plane_in (cell (pos 0) d) p)

-- the folded G of both planes of bins t at their noise numbers
abbrev pub pair_gains : Side → (first second : ℕ) (t : ℕ → ℕ → ℕ → ℤ) → ℕ → ℕ → ℤ
pair_gains s first second t = by_columns (λ p. folded_gain s (either first second p) (t p))

-- P of plane p of a pair of differences, at its noise number
abbrev pub correction_in : Side → (first second : ℕ) (d : List (List ℤ)) (p : ℕ) → ℕ → ℕ → ℤ
correction_in s first second d p = correction_at s (either first second p) (plane_in (cell (pos 0) d) p)

-- and from the folded G of a pair
abbrev pub inverse_in : Side → (g : ℕ → ℕ → ℤ) (p : ℕ) → ℕ → ℕ → ℤ
inverse_in s g p y x = away (back_sum_of s (transposed (plane_in g p)) y x) (2 ^ 32)

-- the sums of a pair of tiles of side n, with the numbers f of both planes added
abbrev pub added : (n : ℕ) (sum : List (List ℤ)) (f : ℕ → ℕ → ℕ → ℤ) → List (List ℤ)
added n sum f = grid n (2 * n) (λ y l. cell (pos 0) sum y l +ℤ f (l % 2) y (l / 2))

-- a pair of tiles of side n: n rows of 2·n
pub record PairedOf (n : ℕ) {A : Type 0} (z : A) (t : List (List A)) : Type 0 where
  pub is : t ≡ grid n (2 * n) (cell z t)

-- ---- pairs of tiles of side 16

abbrev pub Paired : {A : Type 0} (z : A) (t : List (List A)) → Type 0
Paired = PairedOf 16

-- whole numbers in double
unfoldable pub doubles : (ℕ → ℕ → ℤ) → List (List Float)
doubles t = grid 16 32 (λ y l. of_int binary64 (t y l))

-- each of at most m
pub record InDouble (m : ℕ) (g : List (List Float)) : Type 0 where
  pub number : (y l : ℕ) → ℤ
  pub most : (y l : ℕ) → nat_abs (number y l) ≤ m
  pub is : g ≡ doubles number

-- r is the sums of a pair with P of both planes added, from the folded G that g holds, each number of at most m
abbrev pub InverseAdded : (m : ℕ) (g : List (List Float)) (sum r : List (List ℤ)) → Type 0
InverseAdded m g sum r = (w : InDouble m g) → r ≡ added 16 sum (inverse_in side16 w.number)

-- the bins of the plane t are those that differences can have
pub record Binned (t : ℕ → ℕ → ℤ) : Type 0 where
  pub re_most : (u v : ℕ) → u < 16 → v < 9 → nat_abs (tile_re t u v) ≤ bin_most
  pub im_most : (u v : ℕ) → u < 16 → v < 9 → nat_abs (tile_im t u v) ≤ bin_most

-- two such planes, held by columns, in double
pub record BinnedPair (b : List (List Float)) : Type 0 where
  pub plane : (p : ℕ) → ℕ → ℕ → ℤ
  pub first : Binned (plane 0)
  pub second : Binned (plane 1)
  pub is : b ≡ doubles (by_columns plane)

-- g holds their folded G at their noise numbers
abbrev pub GainsOf : (first second : ℕ) (b g : List (List Float)) → Type 0
GainsOf first second b g = (w : BinnedPair b) → g ≡ doubles (pair_gains side16 first second w.plane)
