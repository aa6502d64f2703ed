-- The whole root of a number.
use Rattle.std.specs.Prelude.{◌+◌, ◌*◌, ◌/◌}
use Rattle.algebra.specs.Prelude.{cond, ℕ, zero, suc, leb}

-- r, or the next number where its square is at most n
abbrev pub or_next : ℕ → ℕ → ℕ
or_next n r = cond (leb ((r + 1) * (r + 1)) n) (r + 1) r

-- in k steps: the root of n is twice that of n / 4, or the next number
unfoldable pub root_in : ℕ → ℕ → ℕ
root_in zero n = 0
root_in (suc k) zero = 0
root_in (suc k) (suc n) = or_next (suc n) (2 * root_in k (suc n / 4))

-- "floor of the root": the r with r² ≤ n < (r + 1)² (`root_is` of RootLaws). As n falls with each step, n steps are enough.
unfoldable pub whole_root : ℕ → ℕ
whole_root n = root_in n n
