-- The Wiener step where V is not 0, and that a part of G is no larger than that part of Q, nor than half the root of V.
use Rattle.tile_spectrum.specs.Prelude.{refl, [], arith, ℤ, pos, nat_abs, vars4, ◌⊞◌, ◌⊟◌, ◌⊠◌, #◌, away, power, wiener}
use Rattle.std.specs.Prelude.{ℕ, zero, suc, ◌+◌, ◌*◌, ◌≤◌, ◌<◌, ◌≤ℤ◌, ◌<ℤ◌, ◌≡◌, ◌∷◌, ◌*ℤ◌}
use Rattle.std.proofs.Common.{zero-le, mul-le-mul_right}
use Rattle.algebra.specs.Order.{zarith, abs-mul, 0≤pos}
use Rattle.algebra.specs.Cert.{nn, le, sqr, ◌⊕◌, ◌⊗◌, by-le-times, le-pos}
use Rattle.tile_spectrum.specs.RoundingLaws.{away-within}

pub wiener-is : (v : ℕ) (q r : ℤ) → 0 < v → wiener v q r ≡ away (pos v *ℤ q) (power v q r)
unfolding wiener
wiener-is zero q r h = absurd (omega arith)
wiener-is (suc v) q r h = refl

-- a bound b, where V·|q| ≤ b·(|Q|² + V)
wiener-within : (v b : ℕ) (q r : ℤ) → v * nat_abs q ≤ b * power v q r → nat_abs (wiener v q r) ≤ b
unfolding wiener
wiener-within zero b q r h = zero-le
wiener-within (suc v) b q r h = away-within (pos (suc v) *ℤ q) (power (suc v) q r) b (omega arith) (rw (abs-mul (pos (suc v)) q) h)

pub wiener-most : (v : ℕ) (q r : ℤ) → nat_abs (wiener v q r) ≤ nat_abs q
wiener-most v q r =
    let l : v ≤ power v q r = omega arith in
    wiener-within v (nat_abs q) q r (omega (arith, mul-le-mul_right (nat_abs q) l))

-- 4·b·(b·(q² + r² + V) − V·q) = (2·b·q − V)² + V·(4·b² − V) + (2·b·r)²
half-root : (v b q r : ℕ) → 0 < b → v ≤ 4 * b * b → v * q ≤ b * (q * q + r * r + v)
half-root v b q r h l =
    let (V', B, Q, R) = vars4 in
    let above : pos 0 <ℤ pos (4 * b) = omega zarith in
    let k : pos (v * q) ≤ℤ pos (b * (q * q + r * r + v)) =
    by-le-times (pos v ∷ pos b ∷ pos q ∷ pos r ∷ []) (# 4 ⊠ B) (V' ⊠ Q) (B ⊠ (Q ⊠ Q ⊞ R ⊠ R ⊞ V'))
    (sqr (# 2 ⊠ B ⊠ Q ⊟ V') ⊕ nn V' (0≤pos v) ⊗ le V' (# 4 ⊠ B ⊠ B) (le-pos l) ⊕ sqr (# 2 ⊠ B ⊠ R)) above tt in
    omega zarith

pub wiener-root : (v b : ℕ) (q r : ℤ) → 0 < b → v ≤ 4 * b * b → nat_abs (wiener v q r) ≤ b
wiener-root v b q r h l = wiener-within v b q r (half-root v b (nat_abs q) (nat_abs r) h l)
