-- Inside the crates of the merge: two tiles of side 32 side by side (request L8), as Pairs has those of side 16.
use Rattle.tile_spectrum.specs.Prelude.{List, ℕ, lit≤, get_or, ℤ, pos, nat_abs, side32, quantized, filtered}
use Rattle.std.proofs.Common.{le_trans}
use Rattle.std.specs.Prelude.{Float, ◌≡◌, ◌≤◌, ◌<◌}
use Rattle.std.specs.Float.{binary64}
use Rattle.std.specs.Float.Ieee.{of_int}
use Rattle.sequences.specs.Grid.{grid}
use Rattle.tile_spectrum.specs.Magnitudes.{gain_most, long_bin_most}
use Rattle.tile_spectrum.specs.Spectrum.{tile_re_of, tile_im_of, two_bins_of}
use Rattle.tile_spectrum.specs.Pairs.{PairedOf, by_columns, pair_gains, inverse_in, added}
use Rattle.tile_spectrum.specs.Turns.{turns32}
use Rattle.tile_spectrum.specs.QuadLaws.{bins-each-of}
use Rattle.tile_spectrum.specs.WienerLaws.{wiener-most}
use Rattle.tile_spectrum.specs.SideSizes.{part-within}

abbrev pub LongPaired : {A : Type 0} (z : A) (t : List (List A)) → Type 0
LongPaired = PairedOf 32

-- whole numbers in double
unfoldable pub long_doubles : (ℕ → ℕ → ℤ) → List (List Float)
long_doubles t = grid 32 64 (λ y l. of_int binary64 (t y l))

-- a pair of whole numbers of at most m in double
pub record LongInDouble (m : ℕ) (g : List (List Float)) : Type 0 where
  pub number : (y l : ℕ) → ℤ
  pub most : (y l : ℕ) → nat_abs (number y l) ≤ m
  pub is : g ≡ long_doubles number

-- r is the sums of a pair with P of both planes added, from the folded G that g holds, each number of at most m
abbrev pub LongInverseAdded : (m : ℕ) (g : List (List Float)) (sum r : List (List ℤ)) → Type 0
LongInverseAdded m g sum r = (w : LongInDouble m g) → r ≡ added 32 sum (inverse_in side32 w.number)

-- the bins of the plane t are those that differences can have
pub record LongBinned (t : ℕ → ℕ → ℤ) : Type 0 where
  pub re_most : (u v : ℕ) → u < 32 → v < 17 → nat_abs (tile_re_of side32 t u v) ≤ long_bin_most
  pub im_most : (u v : ℕ) → u < 32 → v < 17 → nat_abs (tile_im_of side32 t u v) ≤ long_bin_most

-- two such planes, held by columns, in double
pub record LongBinnedPair (b : List (List Float)) : Type 0 where
  pub plane : (p : ℕ) → ℕ → ℕ → ℤ
  pub first : LongBinned (plane 0)
  pub second : LongBinned (plane 1)
  pub is : b ≡ long_doubles (by_columns plane)

-- g holds their folded G at their noise numbers
abbrev pub LongGainsOf : (first second : ℕ) (b g : List (List Float)) → Type 0
LongGainsOf first second b g = (w : LongBinnedPair b) → g ≡ long_doubles (pair_gains side32 first second w.plane)

-- a part of G of a bin of such a plane
pub long-gain-most : (noise : ℕ) (b c : ℤ) → nat_abs b ≤ long_bin_most → nat_abs (filtered side32 noise b c) ≤ gain_most
unfolding filtered side32
long-gain-most noise b c h = le_trans (wiener-most noise (quantized side32 b) (quantized side32 c)) (part-within side32 gain_most b (le_trans h (lit≤ tt)))

-- ---- the quads of a tile of side 32

pub long-bins-each : (t : ℕ → ℕ → ℤ) (P : ℤ → Type 0) → P (pos 0) → ((u v : ℕ) → u < 32 → v < 17 → P (tile_re_of side32 t u v)) → ((u v : ℕ) → u < 32 → v < 17 → P (tile_im_of side32 t u v)) → (v u : ℕ) → v < 16 → u < 16 → (i : ℕ) → P (get_or (two_bins_of side32 t v u) i (pos 0))
unfolding side32
long-bins-each = bins-each-of turns32
