-- Division that rounds down, `shr_z z m` (the logic's `>>` at m ≡ 2 ^ s), and division toward zero, `quot_z`.
use Rattle.algebra.specs.Prelude.{[], ℕ, suc, ℤ, pos, negsuc, neg_ℤ}
use Rattle.std.proofs.Common.{div-add-mod', mod-lt, ⊎_elim}
use Rattle.std.specs.Prelude.{◌≤ℤ◌, ◌<ℤ◌, ◌≡◌, ◌∷◌, ◌*◌, ◌/◌, ◌<◌, ◌+ℤ◌, ◌*ℤ◌}
use Rattle.std.specs.Int.Signed.{shr_z, clash_ℤ}
use Rattle.algebra.specs.Ring.{var, ◌⊞◌, ◌⊠◌}
use Rattle.algebra.specs.Order.{zarith, add-pn, neg-p, neg-n, ≤ℤ-antisym, ≤ℤ-total, 0≤pos}
use Rattle.algebra.specs.Cert.{nn, lt, ◌⊗◌, by_le}

-- m·⌊z/m⌋ ≤ z < m·⌊z/m⌋ + m
pub floor-le : (z : ℤ) (m : ℕ) → 0 < m → (pos m *ℤ shr_z z m) ≤ℤ z
floor-le (pos a) m h = omega (zarith, div-add-mod' a m)
floor-le (negsuc a) m h = omega (zarith, div-add-mod' a m, mod-lt a h, neg-p (pos (m * suc (a / m))), neg-n (pos (m * suc (a / m))))

pub floor-lt : (z : ℤ) (m : ℕ) → 0 < m → z <ℤ (pos m *ℤ shr_z z m +ℤ pos m)
floor-lt (pos a) m h = omega (zarith, div-add-mod' a m, mod-lt a h)
floor-lt (negsuc a) m h =
    omega (zarith, div-add-mod' a m, mod-lt a h, neg-p (pos (m * suc (a / m))), neg-n (pos (m * suc (a / m))), add-pn (neg_ℤ (pos (m * suc (a / m)))) (pos m))

-- m·q < m·(p + 1) gives q ≤ p: else m·(q − p − 1) ≥ 0 with q − p − 1 ≥ 0 would say m·q ≥ m·(p + 1)
pub cancel-lt : (m : ℕ) (p q : ℤ) → 0 < m → (pos m *ℤ q) <ℤ (pos m *ℤ p +ℤ pos m) → q ≤ℤ p
cancel-lt m p q h k =
    ⊎_elim (λ (d : q ≤ℤ p). d)
    (λ (d : p <ℤ q).
    clash_ℤ k
    (let M = var 0 in
    let P = var 1 in
    let Q = var 2 in
    by_le (pos m ∷ p ∷ q ∷ []) (M ⊠ P ⊞ M) (M ⊠ Q) (nn M (0≤pos m) ⊗ lt P Q d) tt))
    (≤ℤ-total q p)

pub floor-unique : (z q : ℤ) (m : ℕ) → 0 < m → (pos m *ℤ q) ≤ℤ z → z <ℤ (pos m *ℤ q +ℤ pos m) → shr_z z m ≡ q
floor-unique z q m h k l =
    ≤ℤ-antisym
    (cancel-lt m q (shr_z z m) h (le-lt (floor-le z m h) l))
    (cancel-lt m (shr_z z m) q h (le-lt k (floor-lt z m h)))
  where
    le-lt : {a b c : ℤ} → a ≤ℤ b → b <ℤ c → a <ℤ c
    le-lt {a} {b} {c} h k = omega zarith

-- ---- division toward zero by a positive number

-- ---- the laws of rounding down
