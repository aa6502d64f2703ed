-- Inside the crates of the merge: what is known of a merge with tiles of a side that its tests have let through, and of a pair of its tiles.
use Rattle.std.specs.Prelude.{◌≡◌, ◌/◌, ◌≤◌, ◌<◌}
use Rattle.merge_tiles.specs.Prelude.{List, ℕ, length, ℤ, Shape, BurstFits, SamplesFit, VectorsFit, Merge, side16, spatial_number}
use Rattle.merge_tiles.specs.declared.Site.{Site}

pub record Accepted (side : ℕ) (m : Merge) (samples : List ℕ) (vectors : List ℤ) : Type 0 where
  pub burst : BurstFits m.shape m.reference (length samples) (length vectors)
  pub side_is : m.shape.side ≡ side
  pub samples_fit : SamplesFit m.shape samples
  pub vectors_fit : VectorsFit vectors
  pub shot_most : m.shot ≤ 65536
  pub read_most : m.read ≤ 4194304
  pub strength_most : m.tuning.strength ≤ 1024
  pub spatial-most : m.tuning.spatial ≤ 256
  pub unfiltered : m.shape.side ≡ 32 → m.tuning.spatial ≡ 0

-- what the spatial filter needs of it
pub record Tuned (m : Merge) : Type 0 where
  pub some : 1 ≤ m.shape.count
  pub few : m.shape.count ≤ 8
  pub shot_most : m.shot ≤ 65536
  pub read_most : m.read ≤ 4194304
  pub spatial-most : m.tuning.spatial ≤ 256

-- V' of the bins of plane p, whose r is given
abbrev pub spatial_in : Merge → (root : ℕ → ℕ) → (p u v : ℕ) → ℕ
spatial_in m root p = spatial_number side16 m.tuning.spatial m.shot m.read (root p) m.shape.count

-- a pair of tiles of the planes of one row parity
pub record Sited (side : ℕ) (s : Shape) (t : Site) : Type 0 where
  pub parity : t.parity < 2
  pub row : t.row ≤ s.height / side
  pub column : t.column ≤ s.width / side
