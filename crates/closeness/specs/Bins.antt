-- One bin: each part of the recipe's G is within 3/2 of `parts` times the exact correction's. Rounding Q moves the bin by at most 1/√2, the Wiener map does not stretch, and rounding G adds 1/2.
use Rattle.closeness.specs.Prelude.{sym, ◌∙◌, subst, [], ℕ, zero, suc, arith, lit<, ℤ, pos, negsuc, nat_abs, Frac, frac, ◌+F◌, ◌·F◌, ◌×F◌, ◌÷F◌, divide, Within, Side, power, wiener, quantized, filtered, exact_bin, exact_noise, exact_wiener, exact_filtered}
use Rattle.std.proofs.Common.{subst₂, mul-pos, mul-le-mul_left}
use Prim.Native.Nat.{zero-le}
use Rattle.std.proofs.Math.IntN.{*ℤ_comm}
use Rattle.std.specs.Prelude.{◌≤ℤ◌, ◌<ℤ◌, ◌≡◌, ◌∷◌, ◌*◌, ◌≤◌, ◌<◌, ◌+ℤ◌, ◌-ℤ◌, ◌*ℤ◌}
use Rattle.std.specs.Int.Signed.{lt_z_yes}
use Rattle.algebra.specs.Vars.{vars5, vars6, vars10}
use Rattle.algebra.specs.Ring.{Expr, var, ◌⊞◌, ◌⊟◌, ◌⊠◌, ⊖◌, #◌, ring}
use Rattle.algebra.specs.Order.{zarith, ≤ℤ-antisym, abs-mul, 0≤pos, 0≤*, 0≤sq, abs-of-sq}
use Rattle.algebra.specs.Cert.{num, sqr, le, lt, eq, ◌⊕◌, ◌⊗◌, by_le, by-lt, by-le-times}
use Rattle.algebra.specs.Lipschitz.{sq, lipschitz}
use Rattle.algebra.specs.FractionLaws.{within-trans, within_same, within-near, near-mono, near-zero, Near, rounds-within}
use Rattle.algebra.specs.Same.{near_same, near-cross}
use Rattle.algebra.specs.Nearest.{away}
use Rattle.algebra.specs.NearestLaws.{Rounds, away-rounds}
use Rattle.recipe.specs.CorrectionLaws.{power-is}

-- |B − k·Q|² ≤ k²
spread : (k : ℕ) (x y q r : ℤ) → Rounds x k q → Rounds y k r → (sq (x -ℤ pos k *ℤ q) +ℤ sq (y -ℤ pos k *ℤ r)) ≤ℤ (pos k *ℤ pos k)
spread k x y q r h g =
    let (K, X, Y, P, R) = vars5 in
    let xs = pos k ∷ x ∷ y ∷ q ∷ r ∷ [] in
    let s = X ⊟ K ⊠ P in
    let t = Y ⊟ K ⊠ R in
    by-le-times xs (# 4) (s ⊠ s ⊞ t ⊠ t) (K ⊠ K)
    (le (# 2 ⊠ (X ⊟ K ⊠ P)) K h.down ⊗ le (# 2 ⊠ (K ⊠ P ⊟ X)) K h.up ⊕ le (# 2 ⊠ (Y ⊟ K ⊠ R)) K g.down ⊗ le (# 2 ⊠ (K ⊠ R ⊟ Y)) K g.up ⊕ num 2 ⊗ sqr K)
    (lt_z_yes tt) tt

-- the parts of V·Q/(|Q|²+V) − V·k·B/(|B|²+V·k²), times both denominators: it is no longer than Q − B/k
pub unstretched : (v k x y q r : ℤ) → pos 0 ≤ℤ v → pos 0 <ℤ (k *ℤ k *ℤ (k *ℤ k)) →
    let a = x *ℤ x +ℤ y *ℤ y +ℤ v *ℤ (k *ℤ k) in
    let b = q *ℤ q +ℤ r *ℤ r +ℤ v in
    (k *ℤ k *ℤ (sq (v *ℤ q *ℤ a -ℤ v *ℤ k *ℤ x *ℤ b) +ℤ sq (v *ℤ r *ℤ a -ℤ v *ℤ k *ℤ y *ℤ b))) ≤ℤ ((sq (x -ℤ k *ℤ q) +ℤ sq (y -ℤ k *ℤ r)) *ℤ sq (b *ℤ a))
unstretched v k x y q r h p =
    let (W, K, X, Y, P, R) = vars6 in
    let sq_e : Expr → Expr = λ e. e ⊠ e in
    let VK = W ⊠ (K ⊠ K) in
    let a = sq_e X ⊞ sq_e Y in
    let b = sq_e (K ⊠ P) ⊞ sq_e (K ⊠ R) in
    let A = X ⊠ X ⊞ Y ⊠ Y ⊞ W ⊠ (K ⊠ K) in
    let B = P ⊠ P ⊞ R ⊠ R ⊞ W in
    let D = sq_e (X ⊟ K ⊠ P) ⊞ sq_e (Y ⊟ K ⊠ R) in
    let T1 = VK ⊠ X ⊠ (b ⊞ VK) ⊟ VK ⊠ (K ⊠ P) ⊠ (a ⊞ VK) in
    let T2 = VK ⊠ Y ⊠ (b ⊞ VK) ⊟ VK ⊠ (K ⊠ R) ⊠ (a ⊞ VK) in
    by-le-times (v ∷ k ∷ x ∷ y ∷ q ∷ r ∷ []) (K ⊠ K ⊠ (K ⊠ K)) (K ⊠ K ⊠ (sq_e (W ⊠ P ⊠ A ⊟ W ⊠ K ⊠ X ⊠ B) ⊞ sq_e (W ⊠ R ⊠ A ⊟ W ⊠ K ⊠ Y ⊠ B))) (D ⊠ sq_e (B ⊠ A))
    (le (sq_e T1 ⊞ sq_e T2) (D ⊠ sq_e ((a ⊞ VK) ⊠ (b ⊞ VK))) (lipschitz (v *ℤ (k *ℤ k)) x y (k *ℤ q) (k *ℤ r) (0≤* h (0≤sq k))))
    p tt

-- one part of it, where |B − k·Q|² ≤ k²
part-within : (k t u d m : ℤ) → pos 0 <ℤ (k *ℤ k) → (k *ℤ k *ℤ (sq t +ℤ sq u)) ≤ℤ (d *ℤ sq m) → d ≤ℤ (k *ℤ k) → sq t ≤ℤ sq m
part-within k t u d m p h g =
    let (K, T, U, D, M) = vars5 in
    by-le-times (k ∷ t ∷ u ∷ d ∷ m ∷ []) (K ⊠ K) (T ⊠ T) (M ⊠ M)
    (le (K ⊠ K ⊠ (T ⊠ T ⊞ U ⊠ U)) (D ⊠ (M ⊠ M)) h ⊕ le D (K ⊠ K) g ⊗ sqr M ⊕ sqr (K ⊠ U)) p tt

power-above : (v : ℕ) (q r : ℤ) → 0 < v → 0 < power v q r
power-above v q r h = omega arith

module _ (v k : ℕ) (x y q r : ℤ) (l : 0 < k) (h : Rounds x k q) (g : Rounds y k r) where
  wiener-diff : nat_abs (pos v *ℤ q *ℤ pos (power (v * (k * k)) x y) -ℤ pos v *ℤ pos k *ℤ x *ℤ pos (power v q r)) ≤ power v q r * power (v * (k * k)) x y
  wiener-diff =
      abs-of-sq (pos v *ℤ q *ℤ pos (power (v * (k * k)) x y) -ℤ pos v *ℤ pos k *ℤ x *ℤ pos (power v q r)) (power v q r * power (v * (k * k)) x y)
      (subst₂ (λ a b. sq (pos v *ℤ q *ℤ a -ℤ pos v *ℤ pos k *ℤ x *ℤ b) ≤ℤ sq (b *ℤ a)) (power-is (v * (k * k)) x y) (power-is v q r)
      (let a = x *ℤ x +ℤ y *ℤ y +ℤ pos v *ℤ (pos k *ℤ pos k) in
      let b = q *ℤ q +ℤ r *ℤ r +ℤ pos v in
      part-within (pos k) (pos v *ℤ q *ℤ a -ℤ pos v *ℤ pos k *ℤ x *ℤ b) (pos v *ℤ r *ℤ a -ℤ pos v *ℤ pos k *ℤ y *ℤ b) (sq (x -ℤ pos k *ℤ q) +ℤ sq (y -ℤ pos k *ℤ r)) (b *ℤ a)
      (let m : 0 < k * k = mul-pos l l in omega zarith)
      (unstretched (pos v) (pos k) x y q r (0≤pos v) (let m : 0 < k * k * (k * k) = mul-pos (mul-pos l l) (mul-pos l l) in omega zarith)) (spread k x y q r h g)))

  wiener-within : (m : 0 < power v q r) (n : 0 < power (v * (k * k)) x y) → Within 2 2 (frac (pos v *ℤ q) (power v q r) m) (frac (pos v *ℤ pos k *ℤ x) (power (v * (k * k)) x y) n)
  unfolding frac
  wiener-within m n = record { within = rw (abs-mul (pos 2)) (mul-le-mul_left 2 wiener-diff) }

-- ---- the exact correction as a quotient of whole numbers: `Near 0 1 a (pos k) x` says that x is a/k

-- x/(z/m) is a/k, where the cross products agree
divide_is : (a : ℤ) (k : ℕ) (x : Frac) (z : ℤ) (m : ℕ) → pos 0 <ℤ z → a *ℤ (pos x.den *ℤ z) ≡ pos k *ℤ (x.num *ℤ pos m) → Near 0 1 a (pos k) (divide x z m)
unfolding divide
divide_is a k x (pos zero) m h e = absurd h.lt
divide_is a k x (pos (suc z)) m h e = near_same e
divide_is a k x (negsuc z) m h e = absurd h.lt

-- with b = x/(s·k) and c = y/(s·k), of numerators bn, cn and denominators bd, cd
cross : (v s k bn bd cn cd x y a : ℤ) → x *ℤ bd ≡ s *ℤ k *ℤ bn → y *ℤ cd ≡ s *ℤ k *ℤ cn → x *ℤ x +ℤ y *ℤ y +ℤ v *ℤ (k *ℤ k) ≡ a →
    v *ℤ k *ℤ x *ℤ (s *ℤ s *ℤ bd *ℤ ((bn *ℤ bn *ℤ (cd *ℤ cd) +ℤ cn *ℤ cn *ℤ (bd *ℤ bd)) *ℤ (s *ℤ s) +ℤ v *ℤ (bd *ℤ bd *ℤ (cd *ℤ cd)))) ≡ s *ℤ a *ℤ (v *ℤ bn *ℤ (bd *ℤ bd *ℤ (cd *ℤ cd) *ℤ (s *ℤ s)))
cross v s k bn bd cn cd x y a h g e =
    let (W, S, K, N, M, O, P, X, Y, A) = vars10 in
    let xs = v ∷ s ∷ k ∷ bn ∷ bd ∷ cn ∷ cd ∷ x ∷ y ∷ a ∷ [] in
    let Z = (N ⊠ N ⊠ (P ⊠ P) ⊞ O ⊠ O ⊠ (M ⊠ M)) ⊠ (S ⊠ S) ⊞ W ⊠ (M ⊠ M ⊠ (P ⊠ P)) in
    let l = W ⊠ K ⊠ X ⊠ (S ⊠ S ⊠ M ⊠ Z) in
    let r = S ⊠ A ⊠ (W ⊠ N ⊠ (M ⊠ M ⊠ (P ⊠ P) ⊠ (S ⊠ S))) in
    let f = W ⊠ S ⊠ S ⊠ M ⊠ (M ⊠ P ⊠ P ⊠ K ⊠ W ⊞ M ⊠ O ⊠ O ⊠ K ⊠ S ⊠ S ⊟ X ⊠ N ⊠ P ⊠ P ⊠ S) in
    let g' = ⊖ (W ⊠ S ⊠ S ⊠ M ⊠ M ⊠ N ⊠ S ⊠ (Y ⊠ P ⊞ O ⊠ K ⊠ S)) in
    let e' = W ⊠ S ⊠ S ⊠ S ⊠ M ⊠ M ⊠ N ⊠ P ⊠ P in
    let A' = X ⊠ X ⊞ Y ⊠ Y ⊞ W ⊠ (K ⊠ K) in
    ≤ℤ-antisym
    (by_le xs l r (eq f (X ⊠ M) (S ⊠ K ⊠ N) h ⊕ eq g' (Y ⊠ P) (S ⊠ K ⊠ O) g ⊕ eq e' A' A e) tt)
    (by_le xs r l (eq (⊖ f) (X ⊠ M) (S ⊠ K ⊠ N) h ⊕ eq (⊖ g') (Y ⊠ P) (S ⊠ K ⊠ O) g ⊕ eq (⊖ e') A' A e) tt)

-- the denominator of b² + c² + V/s² is above 0
exact-pos : (v s bd cd : ℕ) (bn cn : ℤ) → 0 < v → 0 < bd → 0 < cd → pos 0 <ℤ ((bn *ℤ bn *ℤ pos (cd * cd) +ℤ cn *ℤ cn *ℤ pos (bd * bd)) *ℤ pos (s * s) +ℤ pos v *ℤ pos (bd * bd * (cd * cd)))
exact-pos v s bd cd bn cn h l g =
    let (W, S, M, P, N, O) = vars6 in
    let m : 0 < v * (bd * bd * (cd * cd)) = mul-pos h (mul-pos (mul-pos l l) (mul-pos g g)) in
    by-lt (pos v ∷ pos s ∷ pos bd ∷ pos cd ∷ bn ∷ cn ∷ []) (# 0) ((N ⊠ N ⊠ (P ⊠ P) ⊞ O ⊠ O ⊠ (M ⊠ M)) ⊠ (S ⊠ S) ⊞ W ⊠ (M ⊠ M ⊠ (P ⊠ P)))
    (sqr (N ⊠ P ⊠ S) ⊕ sqr (O ⊠ M ⊠ S) ⊕ lt (# 0) (W ⊠ (M ⊠ M ⊠ (P ⊠ P))) (omega zarith)) tt

-- of the bin (x + i·y)/(parts·k): `parts` times the correction is V·k·x/(x² + y² + V·k²)
pub exact-is : (s : Side) (v k : ℕ) (x y : ℤ) {b c : Frac} → Near 0 1 x (pos (s.parts * k)) b → Near 0 1 y (pos (s.parts * k)) c → Near 0 1 (pos (suc v) *ℤ pos k *ℤ x) (pos (s.parts * power (suc v * (k * k)) x y)) (exact_wiener s (suc v) b c)
unfolding frac exact_wiener exact_noise ◌×F◌ ◌÷F◌ ◌+F◌
exact-is s v k x y {b} {c} h g =
    divide_is _ _ _ _ _ (exact-pos (suc v) s.parts b.den c.den b.num c.num (omega arith) b.above c.above)
    (cross (pos (suc v)) (pos s.parts) (pos k) b.num (pos b.den) c.num (pos c.den) x y _ (near-cross h) (near-cross g) (power-is (suc v * (k * k)) x y))

module _ (s : Side) (l : 0 < s.quantum) (h : s.parts * s.quantum ≡ s.scale) where
  own-bin : (x : ℤ) → Near 0 1 x (pos (s.parts * s.quantum)) (exact_bin s x)
  unfolding exact_bin frac
  own-bin x = subst (λ k. Near 0 1 x (pos k) (exact_bin s x)) (sym h) (near_same (*ℤ_comm x (pos s.scale)))

  exact-within : (v : ℕ) (x y : ℤ) (n : 0 < power (suc v * (s.quantum * s.quantum)) x y) → Within 0 2 (frac (pos (suc v) *ℤ pos s.quantum *ℤ x) (power (suc v * (s.quantum * s.quantum)) x y) n) (pos s.parts ·F exact_filtered s (suc v) x y)
  unfolding exact_filtered frac ◌·F◌
  exact-within v x y n =
      let e = near-cross (exact-is s v s.quantum x y (own-bin x) (own-bin y)) in
      within_same 2 _ _ (e ∙ ring (pos s.parts ∷ pos (power (suc v * (s.quantum * s.quantum)) x y) ∷ (exact_filtered s (suc v) x y).num ∷ []) (var 0 ⊠ var 1 ⊠ var 2) (var 0 ⊠ var 2 ⊠ var 1) tt)

  pub bin-near : (v : ℕ) (x y : ℤ) → Near 3 2 (filtered s v x y) (pos s.parts) (exact_filtered s v x y)
  unfolding filtered quantized wiener exact_filtered exact_wiener
  bin-near zero x y = near-mono (lit< tt) zero-le (near-zero 2 (pos s.parts))
  bin-near (suc v) x y =
      let k = s.quantum in
      let q = away x k in
      let r = away y k in
      let m = power-above (suc v) q r (omega arith) in
      let n = power-above (suc v * (k * k)) x y (mul-pos {m = suc v} (omega arith) (mul-pos l l)) in
      within-near
      (within-trans
      (within-trans (rounds-within m (away-rounds (pos (suc v) *ℤ q) (power (suc v) q r) m)) (wiener-within (suc v) k x y q r l (away-rounds x k l) (away-rounds y k l) m n))
      (exact-within v x y n))
