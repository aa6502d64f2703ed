-- The size of the inverse's factors, by one computed test over the pairs of entries of a table.
use Rattle.std.specs.Prelude.{◌+◌, ◌≤◌, ◌<◌, ◌+ℤ◌, ◌-ℤ◌, ◌*ℤ◌}
use Rattle.algebra.specs.Prelude.{ℕ, T, leb, ℤ, nat_abs}
use Rattle.std.proofs.Common.{leb→le}
use Rattle.algebra.specs.Test.{all, all_sound}

-- |Re| + |Im| of (C(a) + i·S(a))·(C(b) + i·S(b))
abbrev size : (cosine sine : ℕ → ℤ) (a b : ℕ) → ℕ
size cosine sine a b =
    nat_abs (cosine a *ℤ cosine b -ℤ sine a *ℤ sine b) + nat_abs (cosine a *ℤ sine b +ℤ sine a *ℤ cosine b)

pub twiddles-small : (n most : ℕ) (cosine sine : ℕ → ℤ) → T (all n (λ a. all n (λ b. leb (size cosine sine a b) most))) → (a b : ℕ) → a < n → b < n → size cosine sine a b ≤ most
twiddles-small n most cosine sine t a b h k =
    leb→le (size cosine sine a b) most
    (all_sound n (λ b. leb (size cosine sine a b) most) (all_sound n (λ a. all n (λ b. leb (size cosine sine a b) most)) t a h) b k)
