-- Inside the crates of the merge: what the steps of a pair of tiles of side n ask for.
use Rattle.std.specs.Prelude.{◌≡◌, ◌+◌, ◌*◌, ◌^◌, ◌≤◌, ◌<◌}
use Rattle.merge_tiles.specs.Prelude.{List, ℕ, length, ℤ, pos, AtMost, grid, Shape, Sampled, TileSide, nat_abs, Scene, Side, side_of, Merge, either, reference_tile, reference_root, scene_at}
use Rattle.merge_tiles.specs.declared.Site.{Site}
use Rattle.merge_tiles.specs.Accepted.{Accepted, Sited}
use Rattle.merge_tiles.specs.Sum.{at_site, TileOf, pair_at, Summed, taken_most}
use Rattle.recipe.specs.NoiseNumber.{noise_number}
use Rattle.recipe.specs.Correction.{correction_at}

-- a pair of tiles of side n has rows of so many lanes
pub record PairSize (lanes n : ℕ) : Type 0 where
  pub sided : TileSide n
  pub twice : lanes ≡ 2 * n

-- reading a frame's pair, moved by a vector: a frame of the burst, a vector's parts, and room for the pair
pub record Readable (n : ℕ) (s : Shape) (samples : List ℕ) (frame : ℕ) (t : Site) (down right : ℤ) (tile : List (List ℕ)) : Type 0 where
  pub sampled : Sampled s samples
  pub frame_below : frame < s.count
  pub sited : Sited n s t
  pub down_most : AtMost 172 down
  pub right_most : AtMost 172 right
  pub rows : length tile ≡ n

-- the differences to the k-th other frame: T0, and room for Tz and for them
pub record Comparable (n : ℕ) (side : Side) (m : Merge) (samples : List ℕ) (vectors : List ℤ) (t : Site) (k : ℕ) (t0 tz : List (List ℕ)) (d : List (List ℤ)) : Type 0 where
  pub accepted : Accepted n m samples vectors
  pub sited : Sited n m.shape t
  pub frame : k + 1 < m.shape.count
  pub tile : t0 ≡ pair_at n (reference_tile (scene_at side m samples vectors)) t
  pub tz_rows : length tz ≡ n
  pub d_rows : length d ≡ n

-- the corrections, summed: T0 and its noise numbers, each of at most `top`, and sums that are all 0
pub record Correctable (n : ℕ) (side : Side) (top : ℕ) (m : Merge) (samples : List ℕ) (vectors : List ℤ) (t : Site) (t0 : List (List ℕ)) (first second : ℕ) (sum : List (List ℤ)) : Type 0 where
  pub accepted : Accepted n m samples vectors
  pub sited : Sited n m.shape t
  pub tile : TileOf n top (scene_at side m samples vectors) t t0 first second
  pub cleared : sum ≡ grid n (2 * n) (λ i l. pos 0)

-- how a side's P is computed: its pairs, and how large V is at r of samples up to 4095, and P at such V
pub record CorrectorLaws (lanes n top small : ℕ) : Type 0 where
  pub size : PairSize lanes n
  pub noise : (t ls lr r : ℕ) → t ≤ 1024 → ls ≤ 65536 → lr ≤ 4194304 → r ≤ n * 4095 → noise_number (side_of n) t ls lr r ≤ top
  pub correction : (noise : ℕ) → noise ≤ top → (d : ℕ → ℕ → ℤ) (y x : ℕ) → nat_abs (correction_at (side_of n) noise d y x) ≤ small
  pub top_most : top ≤ 2 ^ 40
  pub few : 7 * small ≤ taken_most

-- T0 of a pair, r of both planes, and its sums
pub record PairSummed (n small : ℕ) (s : Scene) (t : Site) (t0 : List (List ℕ)) (first second : ℕ) (sum : List (List ℤ)) : Type 0 where
  pub tile : t0 ≡ pair_at n (reference_tile s) t
  pub roots : (p : ℕ) → p < 2 → either first second p ≡ at_site (reference_root s) t p
  pub first_most : first ≤ n * 4095
  pub second_most : second ≤ n * 4095
  pub sums : Summed n small s t sum
