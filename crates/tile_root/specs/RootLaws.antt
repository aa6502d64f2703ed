-- The whole root r of n is the one number with r² ≤ n < (r + 1)²: by induction on the steps, and by comparing squares.
use Rattle.std.specs.Prelude.{◌≡◌, ◌+◌, ◌*◌, ◌/◌, ◌≤◌, ◌<◌}
use Rattle.tile_root.specs.Prelude.{refl, Bool, true, false, cond, ℕ, zero, suc, arith, leb, or_next, root_in, whole_root}
use Rattle.std.proofs.Common.{le_antisymm, le_trans, lt_of_not-le, mul-le-mul, leb-true, leb-false}

pub record IsRoot (n r : ℕ) : Type 0 where
  pub low : r * r ≤ n
  pub high : n < (r + 1) * (r + 1)

step : (n r : ℕ) → IsRoot (n / 4) r → IsRoot n (or_next n (2 * r))
step n r h = go (leb ((2 * r + 1) * (2 * r + 1)) n) refl
  where
    go : (b : Bool) → leb ((2 * r + 1) * (2 * r + 1)) n ≡ b → IsRoot n (cond b (2 * r + 1) (2 * r))
    go true e = record { low = leb-true _ _ e; high = omega (arith, h.high) }
    go false e = record { low = omega (arith, h.low); high = leb-false _ _ e }

root-in-is : (k n : ℕ) → n ≤ k → IsRoot n (root_in k n)
unfolding root_in
root-in-is zero n h = record { low = omega arith; high = omega arith }
root-in-is (suc k) zero h = record { low = omega arith; high = omega arith }
root-in-is (suc k) (suc n) h = step (suc n) (root_in k (suc n / 4)) (root-in-is k (suc n / 4) (omega arith))

pub root_is : (n : ℕ) → IsRoot n (whole_root n)
unfolding whole_root
root_is n = root-in-is n n (omega arith)

root-le : {n r q : ℕ} → r * r ≤ n → n < (q + 1) * (q + 1) → r ≤ q
root-le {n} {r} {q} low high = let h : r < q + 1 = lt_of_not-le (λ g. clash (mul-le-mul g g)) in omega arith
  where
    clash : (q + 1) * (q + 1) ≤ r * r → ⊥
    clash g = omega arith

pub root-unique : {n r : ℕ} → IsRoot n r → r ≡ whole_root n
root-unique {n} {r} h = le_antisymm (root-le h.low (root_is n).high) (root-le (root_is n).low h.high)

pub root-mono : {n m : ℕ} → n ≤ m → whole_root n ≤ whole_root m
root-mono {n} {m} h = root-le (le_trans (root_is n).low h) (root_is m).high

pub root-most : {n b : ℕ} → n ≤ b * b → whole_root n ≤ b
root-most {n} {b} h = root-le (root_is n).low (omega arith)
