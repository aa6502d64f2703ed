-- Inside this crate: what is known of a band that its tests have let through.
use Rattle.std.specs.Prelude.{◌≡◌}
use Rattle.stacker.specs.Prelude.{List, ℕ, ℤ, band_length, band_work_length, Merge}
use Rattle.admit_length.specs.BandLaws.{BandIn}
use Rattle.merge_tiles.specs.Accepted.{Accepted}

pub record BandLent (m : Merge) (top rows : ℕ) (samples : List ℕ) (vectors : List ℤ) (output work : ℕ) : Type 0 where
  pub accepted : Accepted m.shape.side m samples vectors
  pub band : BandIn m.shape top rows
  pub output_long : output ≡ band_length m.shape rows
  pub work_long : work ≡ band_work_length m.shape
