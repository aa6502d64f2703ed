-- Inner vocabulary: bounds of vectors.
use Rattle.std.specs.Prelude.{◌≤◌}
use Rattle.algebra.specs.Prelude.{ℕ, nat_abs}
use Rattle.geometry.specs.declared.vectors.Vector.{Vector}

-- both parts are at most b
pub record Within (b : ℕ) (v : Vector) : Type 0 where
  pub vertical : nat_abs v.down ≤ b
  pub sideways : nat_abs v.right ≤ b
