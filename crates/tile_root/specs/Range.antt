-- What r is worked out for, inside this crate's contracts.
use Rattle.std.specs.Prelude.{◌≡◌, ◌+◌, ◌*◌, ◌≤◌}
use Rattle.tile_root.specs.Prelude.{List, ℕ, length, get_or, cell, tile_root}

-- each sample of a row is at most 4095
pub record RowFits (row : List ℕ) : Type 0 where
  pub most : (j : ℕ) → get_or row j 0 ≤ 4095

-- and so is each sample of a pair of tiles
pub record SamplesFit (tile : List (List ℕ)) : Type 0 where
  pub most : (i j : ℕ) → cell 0 tile i j ≤ 4095

-- a pair of tiles of side n, in rows of w places
pub record IsPair (w n : ℕ) : Type 0 where
  pub places : w ≡ 2 * n
  pub side_most : n ≤ 32

-- the sums at the w places of a pair's rows, each of at most k squares of such samples
pub record LanesFit (w k : ℕ) (sum : List ℕ) : Type 0 where
  pub long : length sum ≡ w
  pub most : (l : ℕ) → get_or sum l 0 ≤ k * 16769025

-- r of both planes of a pair of tiles of this side, of their black levels; samples up to 4095 have r up to 4095 times the side
pub record PairRoots (side black black' : ℕ) (tile : List (List ℕ)) (root root' : ℕ) : Type 0 where
  pub first : root ≡ tile_root side black (λ i j. cell 0 tile i (2 * j))
  pub second : root' ≡ tile_root side black' (λ i j. cell 0 tile i (2 * j + 1))
  pub first_most : root ≤ side * 4095
  pub second_most : root' ≤ side * 4095
