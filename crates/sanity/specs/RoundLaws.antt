-- Rounding to nearest: what is whole stays, a sign passes through, and a common factor goes.
use Rattle.sanity.specs.Prelude.{refl, sym, ap, ap₂, ◌∙◌, [], ℕ, zero, suc, arith, 0≤pos, away, upward}
use Rattle.std.proofs.Common.{mul-pos}
use Rattle.std.proofs.Math.Nat.{div-eq_of_lt-le, mul-div-mul_right}
use Rattle.std.specs.Prelude.{ℤ, pos, negsuc, neg_ℤ, ◌+ℤ◌, ◌*ℤ◌, ◌≡◌, ◌∷◌, ◌+◌, ◌*◌, ◌/◌, ◌<◌}
use Rattle.std.proofs.Math.IntN.{neg_ℤ-neg_ℤ}
use Rattle.std.specs.Int.Signed.{shr_z}
use Rattle.algebra.specs.Laws.{neg-*ℤ}
use Rattle.algebra.specs.Ring.{var, ◌⊞◌, ◌⊠◌, #◌, ring}
use Rattle.algebra.specs.Vars.{vars4}
use Rattle.algebra.specs.Cert.{nn, le, lt, ◌⊕◌, ◌⊗◌, by_le, by-lt, le-pos}
use Rattle.algebra.specs.Floor.{floor-le, floor-lt, floor-unique}
use Rattle.tile_spectrum.specs.ZeroLaws.{away-zero}

away-neg : (z : ℤ) (m : ℕ) → 0 < m → away (neg_ℤ z) m ≡ neg_ℤ (away z m)
unfolding away
away-neg (pos zero) m h = away-zero m h ∙ sym (ap neg_ℤ (away-zero m h))
away-neg (pos (suc n)) m h = refl
away-neg (negsuc n) m h = sym (neg_ℤ-neg_ℤ (pos ((2 * suc n + m) / (2 * m))))

-- m·q/m is q
whole-nat : (n m : ℕ) → 0 < m → away (pos (n * m)) m ≡ pos n
unfolding away
whole-nat n m h = ap pos (div-eq_of_lt-le {k = n} (2 * m) {m = 2 * (n * m) + m} (omega arith) (omega arith))

pub away-whole : (q : ℤ) (m : ℕ) → 0 < m → away (q *ℤ pos m) m ≡ q
away-whole (pos n) m h = whole-nat n m h
away-whole (negsuc n) m h = ap (λ z. away z m) (neg-*ℤ (pos (suc n)) (pos m)) ∙ away-neg (pos (suc n * m)) m h ∙ ap neg_ℤ (whole-nat (suc n) m h)

-- c·z/(c·m) is z/m
scale-nat : (n c m : ℕ) → 0 < c → away (pos (n * c)) (m * c) ≡ away (pos n) m
unfolding away
scale-nat n c m h =
    let e : 2 * (n * c) + m * c ≡ (2 * n + m) * c = omega arith in
    let f : 2 * (m * c) ≡ (2 * m) * c = omega arith in
    ap pos (ap₂ ◌/◌ e f ∙ mul-div-mul_right (2 * n + m) (2 * m) h)

pub away-scale : (z : ℤ) (c m : ℕ) → 0 < c → 0 < m → away (z *ℤ pos c) (m * c) ≡ away z m
away-scale (pos n) c m h k = scale-nat n c m h
away-scale (negsuc n) c m h k =
    ap (λ z. away z (m * c)) (neg-*ℤ (pos (suc n)) (pos c))
    ∙ away-neg (pos (suc n * c)) (m * c) (mul-pos k h)
    ∙ ap neg_ℤ (scale-nat (suc n) c m h)
    ∙ sym (away-neg (pos (suc n)) m k)

floor-scale : (z : ℤ) (c m : ℕ) → 0 < c → 0 < m → shr_z (z *ℤ pos c) (m * c) ≡ shr_z z m
floor-scale z c m h k =
    let (Z, C, M, Q) = vars4 in
    let xs = z ∷ pos c ∷ pos m ∷ shr_z z m ∷ [] in
    floor-unique (z *ℤ pos c) (shr_z z m) (m * c) (mul-pos k h)
    (by_le xs (M ⊠ C ⊠ Q) (Z ⊠ C) (nn C (0≤pos c) ⊗ le (M ⊠ Q) Z (floor-le z m k)) tt)
    (by-lt xs (Z ⊠ C) (M ⊠ C ⊠ Q ⊞ M ⊠ C) (nn C (0≤pos c) ⊗ lt Z (M ⊠ Q ⊞ M) (floor-lt z m k) ⊕ le (# 1) C (le-pos h)) tt)

pub upward-scale : (z : ℤ) (c m : ℕ) → 0 < c → 0 < m → upward (z *ℤ pos c) (m * c) ≡ upward z m
unfolding upward
upward-scale z c m h k =
    let e : pos 2 *ℤ (z *ℤ pos c) +ℤ pos (m * c) ≡ (pos 2 *ℤ z +ℤ pos m) *ℤ pos c = ring (z ∷ pos c ∷ pos m ∷ []) (# 2 ⊠ (var 0 ⊠ var 1) ⊞ var 2 ⊠ var 1) ((# 2 ⊠ var 0 ⊞ var 2) ⊠ var 1) tt in
    let f : 2 * (m * c) ≡ (2 * m) * c = omega arith in
    ap₂ shr_z e f ∙ floor-scale (pos 2 *ℤ z +ℤ pos m) c (2 * m) h (omega arith)
