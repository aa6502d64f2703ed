-- V's bounds and its monotony in each of its arguments.
use Rattle.std.specs.Prelude.{◌≡◌, ◌≤◌}
use Rattle.noise.specs.Prelude.{ℕ, arith, lit≤, side16, side32, variance, noise_number}
use Rattle.std.proofs.Common.{le_trans, mul-le-mul, mul-le-mul_left, zero-mul}
use Rattle.std.proofs.Math.Nat.{add-le-add, mul-zero, zero-div}
use Rattle.recipe.specs.Side.{Side}

-- no strength, or no level: no noise
module _ (n : Side) where
  pub noise-number-off : (ls lr r : ℕ) → noise_number n 0 ls lr r ≡ 0
  unfolding noise_number
  noise-number-off ls lr r = rw (zero-mul (variance n ls lr r), zero-div n.noise_divisor)

  pub noise-number-none : (t r : ℕ) → noise_number n t 0 0 r ≡ 0
  unfolding noise_number variance
  noise-number-none t r = rw (zero-mul r, mul-zero n.side, mul-zero t, zero-div n.noise_divisor)

  variance-mono : {ls lr r ls' lr' r' : ℕ} → ls ≤ ls' → lr ≤ lr' → r ≤ r' → variance n ls lr r ≤ variance n ls' lr' r'
  unfolding variance
  variance-mono hs hr h = add-le-add (mul-le-mul hs h) (mul-le-mul_left n.side hr)

-- at side 16: V grows with each of its arguments
pub noise-number-mono : {t ls lr r t' ls' lr' r' : ℕ} → t ≤ t' → ls ≤ ls' → lr ≤ lr' → r ≤ r' → noise_number side16 t ls lr r ≤ noise_number side16 t' ls' lr' r'
unfolding noise_number side16
noise-number-mono ht hs hr h = omega (arith, mul-le-mul ht (variance-mono side16 hs hr h))

-- and so it does at side 32
pub long-noise-mono : {t ls lr r t' ls' lr' r' : ℕ} → t ≤ t' → ls ≤ ls' → lr ≤ lr' → r ≤ r' → noise_number side32 t ls lr r ≤ noise_number side32 t' ls' lr' r'
unfolding noise_number side32
long-noise-mono ht hs hr h = omega (arith, mul-le-mul ht (variance-mono side32 hs hr h))

-- and this is its bound where every sample is at most 4095
pub noise-number-bound : {t ls lr r : ℕ} → t ≤ 1024 → ls ≤ 65536 → lr ≤ 4194304 → r ≤ 65520 → noise_number side16 t ls lr r ≤ 279105765376
unfolding noise_number variance side16
noise-number-bound ht hs hr h = le_trans (noise-number-mono ht hs hr h) (lit≤ tt)

pub long-noise-bound : {t ls lr r : ℕ} → t ≤ 1024 → ls ≤ 65536 → lr ≤ 4194304 → r ≤ 131040 → noise_number side32 t ls lr r ≤ 69776441344
unfolding noise_number variance side32
long-noise-bound ht hs hr h = le_trans (long-noise-mono ht hs hr h) (lit≤ tt)
