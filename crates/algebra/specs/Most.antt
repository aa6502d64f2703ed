-- Bounds of rounded quotients, of sums and of held numbers.
use Rattle.algebra.specs.Prelude.{refl, ap, subst, [], ℕ, arith, ℤ, pos, negsuc, nat_abs}
use Rattle.std.proofs.Common.{le_trans, mul-le-mul_left}
use Rattle.std.specs.Prelude.{◌≤ℤ◌, ◌≡◌, ◌∷◌, ◌+◌, ◌*◌, ◌/◌, ◌≤◌, ◌<◌, ◌-ℤ◌, ◌*ℤ◌}
use Rattle.algebra.specs.Vars.{vars3, vars4}
use Rattle.algebra.specs.Ring.{◌⊟◌, ◌⊠◌, ⊖◌, #◌, ring}
use Rattle.algebra.specs.Order.{zarith, abs_neg, abs-mul, abs-sub, abs-le}
use Rattle.algebra.specs.Cert.{le, by_le}
use Rattle.algebra.specs.Sums.{sum_z, sum_n}
use Rattle.algebra.specs.SumLaws.{sum_n-scale, sum_n-const, sum_n-mono, abs-sum}
use Rattle.algebra.specs.Nearest.{away}
use Rattle.algebra.specs.NearestLaws.{Rounds}
use Rattle.algebra.specs.Clamp.{clamp_z}
use Rattle.algebra.specs.ClampLaws.{clamp-same, clamp-near}

-- ---- quotients

pub rounds-abs : {z : ℤ} {m : ℕ} {q : ℤ} → Rounds z m q → nat_abs (pos 2 *ℤ (pos m *ℤ q -ℤ z)) ≤ m
rounds-abs {z} {m} {q} r =
    let (Z, M, Q) = vars3 in
    abs-le _ (by_le (z ∷ pos m ∷ q ∷ []) (⊖ M) (# 2 ⊠ (M ⊠ Q ⊟ Z)) (le (# 2 ⊠ (Z ⊟ M ⊠ Q)) M r.down) tt) r.up

pub away-abs : (z : ℤ) (m : ℕ) → nat_abs (away z m) ≡ (2 * nat_abs z + m) / (2 * m)
unfolding away
away-abs (pos a) m = refl
away-abs (negsuc a) m = abs_neg (pos ((2 * nat_abs (negsuc a) + m) / (2 * m)))

-- o is t − p/n, rounded
pub moved : (n : ℕ) (t p o : ℤ) → Rounds (t *ℤ pos n -ℤ p) n o → 2 * (n * nat_abs (o -ℤ t)) ≤ n + 2 * nat_abs p
moved n t p o r =
    let (N, T, P, O) = vars4 in
    let z = pos 2 *ℤ (pos n *ℤ o -ℤ (t *ℤ pos n -ℤ p)) in
    let apart : pos (2 * n) *ℤ (o -ℤ t) ≡ z -ℤ pos 2 *ℤ p =
    ring (pos n ∷ t ∷ p ∷ o ∷ []) (# 2 ⊠ N ⊠ (O ⊟ T)) (# 2 ⊠ (N ⊠ O ⊟ (T ⊠ N ⊟ P)) ⊟ # 2 ⊠ P) tt in
    omega (arith, abs-mul (pos (2 * n)) (o -ℤ t), ap nat_abs apart, abs-sub z (pos 2 *ℤ p), rounds-abs r, abs-mul (pos 2) p)

-- ---- sums: c·|sum| is at most the sum of what bounds c·|term|

pub sum-most : (c n : ℕ) (f : ℕ → ℤ) (e : ℕ → ℕ) → ((i : ℕ) → i < n → c * nat_abs (f i) ≤ e i) → c * nat_abs (sum_z n f) ≤ sum_n n e
sum-most c n f e h =
    le_trans (mul-le-mul_left c (abs-sum n f)) (rw (← sum_n-scale n c (λ i. nat_abs (f i))) (sum_n-mono n (λ i. c * nat_abs (f i)) e h))

pub sums_most : (c n e : ℕ) (f : ℕ → ℤ) → ((i : ℕ) → i < n → c * nat_abs (f i) ≤ e) → c * nat_abs (sum_z n f) ≤ n * e
sums_most c n e f h = rw (← sum_n-const n e) (sum-most c n f (λ i. e) h)

-- ---- a hold leads to what is within

pub clamp-toward : (lo hi x y : ℤ) → lo ≤ℤ y → y ≤ℤ hi → nat_abs (clamp_z lo hi x -ℤ y) ≤ nat_abs (x -ℤ y)
clamp-toward lo hi x y h k =
    subst (λ z. nat_abs (clamp_z lo hi x -ℤ z) ≤ nat_abs (x -ℤ y)) (clamp-same lo hi y h k) (clamp-near lo hi x y (omega zarith))
