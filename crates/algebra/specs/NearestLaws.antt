-- Rounding to nearest, either way, is within 1/2.
use Rattle.algebra.specs.Prelude.{refl, sym, ap, ◌∙◌, [], ℕ, zero, suc, arith, lit<}
use Rattle.std.proofs.Common.{mul-pos, div-add-mod', mod-lt}
use Rattle.std.proofs.Math.Nat.{div-eq_of_lt}
use Rattle.std.specs.Prelude.{ℤ, pos, negsuc, neg_ℤ, ◌+ℤ◌, ◌-ℤ◌, ◌*ℤ◌, ◌≤ℤ◌, ◌≡◌, ◌∷◌, ◌+◌, ◌*◌, ◌/◌, ◌≤◌, ◌<◌}
use Rattle.std.proofs.Math.IntN.{neg_ℤ-neg_ℤ}
use Rattle.std.specs.Int.Signed.{shr_z}
use Rattle.algebra.specs.Vars.{vars3}
use Rattle.algebra.specs.Ring.{◌⊞◌, ◌⊟◌, ◌⊠◌, ⊖◌, #◌}
use Rattle.algebra.specs.Cert.{num, le, lt, ◌⊕◌, by_le, le-pos}
use Rattle.algebra.specs.Floor.{floor-le, floor-lt}
use Rattle.algebra.specs.Nearest.{away, upward}

-- halves away from zero: −z rounds to the negative
pub away-odd : (z : ℤ) (m : ℕ) → 0 < m → away (neg_ℤ z) m ≡ neg_ℤ (away z m)
unfolding away
away-odd (pos zero) m h = let e = div-eq_of_lt {n = 2 * 0 + m} {m = 2 * m} (omega arith) in ap pos e ∙ sym (ap (λ n. neg_ℤ (pos n)) e)
away-odd (pos (suc a)) m h = refl
away-odd (negsuc a) m h = sym (neg_ℤ-neg_ℤ (pos ((2 * suc a + m) / (2 * m))))

nearest : (a m : ℕ) → 0 < m → (2 * (m * ((2 * a + m) / (2 * m))) ≤ 2 * a + m) × (2 * a ≤ 2 * (m * ((2 * a + m) / (2 * m))) + m)
nearest a m h =
    (omega (arith, div-add-mod' (2 * a + m) (2 * m)), omega (arith, div-add-mod' (2 * a + m) (2 * m), mod-lt (2 * a + m) (mul-pos {m = 2} (lit< tt) h)))

-- |m·q − z| ≤ m/2, in two parts
pub record Rounds (z : ℤ) (m : ℕ) (q : ℤ) : Type 0 where
  pub up : (pos 2 *ℤ (pos m *ℤ q -ℤ z)) ≤ℤ pos m
  pub down : (pos 2 *ℤ (z -ℤ pos m *ℤ q)) ≤ℤ pos m

rounds-nat : (a m q : ℕ) → 2 * (m * q) ≤ 2 * a + m → 2 * a ≤ 2 * (m * q) + m → Rounds (pos a) m (pos q)
rounds-nat a m q h k =
    let (A, M, Q) = vars3 in
    record {
      up = by_le (pos a ∷ pos m ∷ pos q ∷ []) (# 2 ⊠ (M ⊠ Q ⊟ A)) M (le (# 2 ⊠ (M ⊠ Q)) (# 2 ⊠ A ⊞ M) (le-pos h)) tt;
      down = by_le (pos a ∷ pos m ∷ pos q ∷ []) (# 2 ⊠ (A ⊟ M ⊠ Q)) M (le (# 2 ⊠ A) (# 2 ⊠ (M ⊠ Q) ⊞ M) (le-pos k)) tt;
    }

rounds-neg : {z : ℤ} {m : ℕ} {q : ℤ} → Rounds z m q → Rounds (neg_ℤ z) m (neg_ℤ q)
rounds-neg {z} {m} {q} r =
    let (A, M, Q) = vars3 in
    record {
      up = by_le (z ∷ pos m ∷ q ∷ []) (# 2 ⊠ (M ⊠ ⊖ Q ⊟ ⊖ A)) M (le (# 2 ⊠ (A ⊟ M ⊠ Q)) M r.down) tt;
      down = by_le (z ∷ pos m ∷ q ∷ []) (# 2 ⊠ (⊖ A ⊟ M ⊠ ⊖ Q)) M (le (# 2 ⊠ (M ⊠ Q ⊟ A)) M r.up) tt;
    }

pub away-rounds : (z : ℤ) (m : ℕ) → 0 < m → Rounds z m (away z m)
unfolding away
away-rounds (pos a) m h = rounds-nat a m ((2 * a + m) / (2 * m)) (nearest a m h).0 (nearest a m h).1
away-rounds (negsuc a) m h = rounds-neg (rounds-nat (suc a) m ((2 * suc a + m) / (2 * m)) (nearest (suc a) m h).0 (nearest (suc a) m h).1)

pub upward-rounds : (z : ℤ) (m : ℕ) → 0 < m → Rounds z m (upward z m)
unfolding upward
upward-rounds z m h =
    let (Z, M, Q) = vars3 in
    let xs = z ∷ pos m ∷ shr_z (pos 2 *ℤ z +ℤ pos m) (2 * m) ∷ [] in
    record {
      up = by_le xs (# 2 ⊠ (M ⊠ Q ⊟ Z)) M (le (# 2 ⊠ M ⊠ Q) (# 2 ⊠ Z ⊞ M) (floor-le (pos 2 *ℤ z +ℤ pos m) (2 * m) (mul-pos {m = 2} (lit< tt) h))) tt;
      down = by_le xs (# 2 ⊠ (Z ⊟ M ⊠ Q)) M (num 1 ⊕ lt (# 2 ⊠ Z ⊞ M) (# 2 ⊠ M ⊠ Q ⊞ # 2 ⊠ M) (floor-lt (pos 2 *ℤ z +ℤ pos m) (2 * m) (mul-pos {m = 2} (lit< tt) h))) tt;
    }
