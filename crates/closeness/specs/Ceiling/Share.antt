-- One bin's share of the inverse sum, t·g − u·h for the factor t + i·u. The Wiener map takes Q to a modulus of at most half the root of V,
-- and rounding moves each part of G by at most 1/2.
use Rattle.algebra.specs.Prelude.{subst, [], ℕ, zero, suc, arith, ℤ, pos, nat_abs}
use Rattle.std.proofs.Common.{le_refl, mul-le-mul_right}
use Rattle.std.proofs.Math.Nat.{le_of_mul-le-mul_left}
use Rattle.std.proofs.Math.IntN.{*ℤ-zero}
use Rattle.std.specs.Prelude.{◌≤ℤ◌, ◌≡◌, ◌∷◌, ◌+◌, ◌*◌, ◌≤◌, ◌<◌, ◌+ℤ◌, ◌-ℤ◌, ◌*ℤ◌}
use Rattle.std.specs.Int.Signed.{lt_z_yes}
use Rattle.algebra.specs.Vars.{vars7, vars8}
use Rattle.algebra.specs.Ring.{Expr, ◌⊞◌, ◌⊟◌, ◌⊠◌, #◌, nth, ring}
use Rattle.algebra.specs.Order.{0≤pos, abs-mul, abs-mul-le, abs-add, abs-sub, abs-of-sq}
use Rattle.algebra.specs.Cert.{Cert, num, nn, sqr, le, ◌⊕◌, ◌⊗◌, by-le-times, le-pos}
use Rattle.algebra.specs.Lipschitz.{sq}
use Rattle.algebra.specs.Nearest.{away}
use Rattle.algebra.specs.NearestLaws.{Rounds, away-rounds}
use Rattle.recipe.specs.Correction.{power, wiener}
use Rattle.recipe.specs.CorrectionLaws.{power-is}
use Rattle.algebra.specs.Most.{rounds-abs}

-- |V·(t·q − u·r)| ≤ m·b·(|Q|² + V), where |t + i·u| ≤ m and V ≤ 4·b². With A = |Q|² and D = A + V,
-- 4·(m²·b²·D² − V²·(t·q − u·r)²) = m²·((4·b² − V)·D² + V·(A − V)²) + 4·(V²·A·(m² − t² − u²) + V²·(t·r + u·q)²)
halved : (v m b t u q r : ℤ) → pos 0 ≤ℤ v → (sq t +ℤ sq u) ≤ℤ sq m → v ≤ℤ (pos 4 *ℤ (b *ℤ b)) → sq (v *ℤ (t *ℤ q -ℤ u *ℤ r)) ≤ℤ sq (m *ℤ b *ℤ (q *ℤ q +ℤ r *ℤ r +ℤ v))
halved v m b t u q r h k l =
    let (W, M, B, T, U, Q, R) = vars7 in
    let xs = v ∷ m ∷ b ∷ t ∷ u ∷ q ∷ r ∷ [] in
    let sq_e : Expr → Expr = λ e. e ⊠ e in
    let A = Q ⊠ Q ⊞ R ⊠ R in
    let c : Cert (nth xs) = nn W h in
    by-le-times xs (# 4) (sq_e (W ⊠ (T ⊠ Q ⊟ U ⊠ R))) (sq_e (M ⊠ B ⊠ (A ⊞ W)))
    (sqr M ⊗ (le W (# 4 ⊠ (B ⊠ B)) l ⊗ sqr (A ⊞ W) ⊕ c ⊗ sqr (A ⊟ W)) ⊕ num 4 ⊗ (sqr W ⊗ (sqr Q ⊕ sqr R) ⊗ le (sq_e T ⊞ sq_e U) (sq_e M) k ⊕ sqr (W ⊠ (T ⊠ R ⊞ U ⊠ Q))))
    (lt_z_yes tt) tt

-- the factor t + i·u: its modulus is at most m, and |t| + |u| at most `most`
module _ (m most b v : ℕ) (t u q r : ℤ) (h : (sq t +ℤ sq u) ≤ℤ sq (pos m)) (k : nat_abs t + nat_abs u ≤ most) (l : v ≤ 4 * (b * b)) where
  abbrev D : ℕ
  D = power v q r

  unrounded : nat_abs (pos v *ℤ (t *ℤ q -ℤ u *ℤ r)) ≤ m * b * D
  unrounded =
      abs-of-sq (pos v *ℤ (t *ℤ q -ℤ u *ℤ r)) (m * b * D)
      (subst (λ d. sq (pos v *ℤ (t *ℤ q -ℤ u *ℤ r)) ≤ℤ sq (pos (m * b) *ℤ d)) (power-is v q r) (halved (pos v) (pos m) (pos b) t u q r (0≤pos v) h (le-pos l)))

  rounded : (x y : ℤ) → 0 < D → Rounds (pos v *ℤ q) D x → Rounds (pos v *ℤ r) D y → 2 * nat_abs (t *ℤ x -ℤ u *ℤ y) ≤ 2 * (m * b) + most
  rounded x y p f g =
      let X = pos 2 *ℤ (pos D *ℤ x -ℤ pos v *ℤ q) in
      let Y = pos 2 *ℤ (pos D *ℤ y -ℤ pos v *ℤ r) in
      let z = pos v *ℤ (t *ℤ q -ℤ u *ℤ r) in
      let apart : pos (2 * D) *ℤ (t *ℤ x -ℤ u *ℤ y) ≡ pos 2 *ℤ z +ℤ (t *ℤ X -ℤ u *ℤ Y) =
      (let (E, W, T, U, Q, R, G, H) = vars8 in
      ring (pos D ∷ pos v ∷ t ∷ u ∷ q ∷ r ∷ x ∷ y ∷ []) (# 2 ⊠ E ⊠ (T ⊠ G ⊟ U ⊠ H))
      (# 2 ⊠ (W ⊠ (T ⊠ Q ⊟ U ⊠ R)) ⊞ (T ⊠ (# 2 ⊠ (E ⊠ G ⊟ W ⊠ Q)) ⊟ U ⊠ (# 2 ⊠ (E ⊠ H ⊟ W ⊠ R)))) tt) in
      let sum : nat_abs (pos (2 * D) *ℤ (t *ℤ x -ℤ u *ℤ y)) ≤ nat_abs (pos 2 *ℤ z) + (nat_abs (t *ℤ X) + nat_abs (u *ℤ Y)) =
      rw apart (omega (arith, abs-add (pos 2 *ℤ z) (t *ℤ X -ℤ u *ℤ Y), abs-sub (t *ℤ X) (u *ℤ Y))) in
      le_of_mul-le-mul_left {k = D}
      (omega (arith, sum, abs-mul (pos (2 * D)) (t *ℤ x -ℤ u *ℤ y), abs-mul (pos 2) z, unrounded, abs-mul-le t X (le_refl (nat_abs t)) (rounds-abs f), abs-mul-le u Y (le_refl (nat_abs u)) (rounds-abs g), mul-le-mul_right D k)) p

-- and so it is for G's parts
module _ (m most b : ℕ) (t u : ℤ) (h : (sq t +ℤ sq u) ≤ℤ sq (pos m)) (k : nat_abs t + nat_abs u ≤ most) where
  pub share-most : (v : ℕ) (q r : ℤ) → v ≤ 4 * (b * b) → 2 * nat_abs (t *ℤ wiener v q r -ℤ u *ℤ wiener v r q) ≤ 2 * (m * b) + most
  unfolding wiener
  share-most zero q r l = rw (*ℤ-zero t, *ℤ-zero u) (omega arith)
  share-most (suc v) q r l =
      let above : 0 < power (suc v) q r = omega arith in
      let turned : power (suc v) r q ≡ power (suc v) q r = omega arith in
      let x = away (pos (suc v) *ℤ q) (power (suc v) q r) in
      let y = away (pos (suc v) *ℤ r) (power (suc v) r q) in
      rounded m most b (suc v) t u q r h k l x y above (away-rounds (pos (suc v) *ℤ q) (power (suc v) q r) above)
      (subst (λ d. Rounds (pos (suc v) *ℤ r) d y) turned (away-rounds (pos (suc v) *ℤ r) (power (suc v) r q) (rw turned above)))
