-- Inside this crate and merge_tiles: the spatial filter (request L13) on two tiles side by side, from T0 and the sums of P.
use Rattle.std.specs.Prelude.{◌+◌, ◌*◌, ◌≤◌, ◌-ℤ◌, ◌*ℤ◌}
use Rattle.tile_spatial.specs.Prelude.{List, [], ℕ, get_or, ℤ, pos, nat_abs, cell, away, side16, bin_re, bin_im, inverse_at, copy_filtered, frequency, small_most, spatial_most, Paired, plane_in, added}

-- the copy of the merged tile of N = `frames` frames, in 1/256
unfoldable pub copy_in : (frames : ℕ) (t0 : ℕ → ℕ → ℕ) (sum : ℕ → ℕ → ℤ) → ℕ → ℕ → ℤ
copy_in frames t0 sum y x = away (pos (t0 y x) *ℤ pos (256 * frames) -ℤ sum y x) frames

-- V' of bin (u, v), from those of indices up to 8
abbrev pub bin_noise : (noise : ℕ → ℕ → ℕ) → ℕ → ℕ → ℕ
bin_noise noise u v = noise (frequency u) (frequency v)

-- P' of a copy c at V' of each bin
unfoldable pub step_at : (noise : ℕ → ℕ → ℕ) (c : ℕ → ℕ → ℤ) → ℕ → ℕ → ℤ
step_at noise c =
    inverse_at side16 (λ u v. copy_filtered side16 (noise u v) (bin_re side16 c u v) (bin_im side16 c u v)) (λ u v. copy_filtered side16 (noise u v) (bin_im side16 c u v) (bin_re side16 c u v))

-- the sums of a pair, with N·P' of both planes added, at V' of the bins of plane p
abbrev pub filtered_sums : (frames : ℕ) (noise : (p u v : ℕ) → ℕ) (t0 : List (List ℕ)) (sum : List (List ℤ)) → List (List ℤ)
filtered_sums frames noise t0 sum =
    added 16 sum (λ p y x. pos frames *ℤ step_at (noise p) (copy_in frames (plane_in (cell 0 t0) p) (plane_in (cell (pos 0) sum) p)) y x)

-- N is 1 to 8
pub record Frames (frames : ℕ) : Type 0 where
  pub some : 1 ≤ frames
  pub few : frames ≤ 8

-- a sum of N − 1 numbers P is at most what these can add up to
pub record SumMost (frames : ℕ) (z : ℤ) : Type 0 where
  pub most : nat_abs z + small_most ≤ frames * small_most

-- each sample of a row of T0 is at most 4095, and each sum that much
pub record SampleRow (x : List ℕ) : Type 0 where
  pub at : (l : ℕ) → get_or x l 0 ≤ 4095

pub record SumRow (frames : ℕ) (x : List ℤ) : Type 0 where
  pub at : (l : ℕ) → SumMost frames (get_or x l (pos 0))

pub record SamplePair (t : List (List ℕ)) : Type 0 where
  pub row : (y : ℕ) → SampleRow (get_or t y [])

pub record SumPair (frames : ℕ) (t : List (List ℤ)) : Type 0 where
  pub row : (y : ℕ) → SumRow frames (get_or t y [])

-- each noise number of a line, and of a table, is at most b
pub record NoiseLine (b : ℕ) (x : List ℕ) : Type 0 where
  pub at : (i : ℕ) → get_or x i 0 ≤ b

pub record NoisesMost (b : ℕ) (t : List (List ℕ)) : Type 0 where
  pub line : (u : ℕ) → NoiseLine b (get_or t u [])

-- what the filter asks of a pair, and of V' of both planes
pub record Filterable (frames : ℕ) (first second t0 : List (List ℕ)) (sum : List (List ℤ)) : Type 0 where
  pub frames_fit : Frames frames
  pub first_most : NoisesMost spatial_most first
  pub second_most : NoisesMost spatial_most second
  pub samples : SamplePair t0
  pub sums : SumPair frames sum
  pub paired : Paired (pos 0) sum
