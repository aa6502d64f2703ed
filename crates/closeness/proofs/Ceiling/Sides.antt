-- The ceiling with the numbers of either side.
use Rattle.std.specs.Prelude.{◌-◌, ◌*◌, ◌≤◌, ◌<◌}
use Rattle.algebra.specs.Prelude.{ℕ, ℤ, pos}
use Rattle.recipe.specs.Tables.{side16}
use Rattle.recipe.specs.Tables32.{side32}
use Rattle.recipe.specs.PlainOutput.{output_sample}
use Rattle.closeness.specs.Side16.{fitting16}
use Rattle.closeness.specs.Side32.{fitting32}
use Rattle.closeness.specs.Ceiling.Leak.{largest, leak}
use Rattle.closeness.specs.Ceiling.Sides.{circle16, circle32}
use Rattle.closeness.proofs.Ceiling.Ceiling.{ceiling}

-- V in 1/256: e ≤ 1 + √V/32, at N = others + 1 frames
module _ (a b others : ℕ) (noise : ℕ → ℕ) (d : ℕ → ℕ → ℕ → ℕ → ℤ) (t0 : ℕ) where
  pub ceiling16 : a < 8 → b < 8 → others ≤ 7 → t0 ≤ 4095 → let e = leak (output_sample side16 a b others noise d (pos t0)) (pos t0) in 1024 * ((e - 1) * (e - 1)) ≤ largest noise
  unfolding side16
  ceiling16 = ceiling fitting16 circle16 a b others noise d t0

  -- V in 1/16: e ≤ 1 + √V/8
  pub ceiling32 : a < 16 → b < 16 → others ≤ 7 → t0 ≤ 4095 → let e = leak (output_sample side32 a b others noise d (pos t0)) (pos t0) in 64 * ((e - 1) * (e - 1)) ≤ largest noise
  unfolding side32
  ceiling32 = ceiling fitting32 circle32 a b others noise d t0
