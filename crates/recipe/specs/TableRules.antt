-- The rules of a side's cosines that folds of lines use, whatever the side.
use Rattle.std.specs.Prelude.{◌≡◌, ◌+◌, ◌-◌, ◌*◌, ◌/◌, ◌%◌, ◌≤◌}
use Rattle.algebra.specs.Prelude.{ℕ, nat_abs, neg_ℤ}
use Rattle.recipe.specs.Side.{Side, cos_at}

pub record Rules (s : Side) : Type 0 where
  -- the side is twice the half, and the half is two quarters
  pub whole : s.side ≡ 2 * s.half
  pub quarters : s.half ≡ 2 * (s.side / 4)
  -- C(j+n/2) = −C(j)
  pub half_turn : (j : ℕ) → cos_at s (j + s.half) ≡ neg_ℤ (cos_at s j)
  -- C(n−k) = C(k)
  pub mirrored : (k : ℕ) → k ≤ s.side → cos_at s (s.side - k) ≡ cos_at s k
  pub most : (k : ℕ) → nat_abs (cos_at s k) ≤ 16384

-- the index −k
abbrev pub opposite_of : Side → ℕ → ℕ
opposite_of s k = (s.side - k) % s.side

-- a side s of twice the numbers of t: C(2j) of s is C(j) of t
pub record Doubled (s t : Side) : Type 0 where
  pub line : s.half ≡ t.side
  pub evens : (j : ℕ) → cos_at s (2 * j) ≡ cos_at t j
