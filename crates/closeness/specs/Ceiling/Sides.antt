-- The tables of either side lie in a circle.
use Rattle.algebra.specs.Prelude.{ℕ, T, lit≤, lit<, ℤ, pos}
use Rattle.std.specs.Prelude.{◌≤ℤ◌, ◌<◌, ◌+ℤ◌}
use Rattle.std.specs.Int.Signed.{le_z, le_z_yes}
use Rattle.algebra.specs.Test.{all, all_sound}
use Rattle.algebra.specs.Lipschitz.{sq}
use Rattle.recipe.specs.Tables.{cosines, cosine16, sine16, side16}
use Rattle.recipe.specs.Tables32.{cosines32, cosine32, sine32, side32}
use Rattle.closeness.specs.Ceiling.Ceiling.{Circle}

-- one computed test over a table
pub entries : (n m : ℕ) (cosine sine : ℕ → ℤ) → T (all n (λ k. le_z (sq (cosine k) +ℤ sq (sine k)) (pos m))) → (k : ℕ) → k < n → (sq (cosine k) +ℤ sq (sine k)) ≤ℤ pos m
entries n m cosine sine t k h = le_z_yes (all_sound n (λ k. le_z (sq (cosine k) +ℤ sq (sine k)) (pos m)) t k h)

-- 268441669 is 1.0000232 of 2^28
pub circle16 : Circle side16 268441669 379633849
unfolding side16 cosines cosine16 sine16
circle16 = record { half_above = lit< tt; entry = entries 16 268441669 cosine16 sine16 tt; factor = lit≤ tt; slack = lit≤ tt }

pub circle32 : Circle side32 268441669 379633849
unfolding side32 cosines32 cosine32 sine32
circle32 = record { half_above = lit< tt; entry = entries 32 268441669 cosine32 sine32 tt; factor = lit≤ tt; slack = lit≤ tt }
