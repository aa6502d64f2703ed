-- One bin of the copy. With C a common denominator of the exact corrections: twice the square of the error of C·G is at most C²·(12 + 3·(the bin's error)²), the error counted in sixteenths.
-- Rounding the bin and rounding G are each at most 1/√2, and |a + b + c|² ≤ 6·|a|² + 6·|b|² + 3/2·|c|².
use Rattle.closeness.specs.Spatial.Prelude.{sym, ◌∙◌, subst, [], ℕ, zero, suc, arith, ℤ, pos, subst₂, vars3, vars7, vars8, vars10, Expr, var, ◌⊞◌, ◌⊟◌, ◌⊠◌, ⊖◌, #◌, ring, Frac, whole, sq, Side, power, wiener, exact_wiener}
use Rattle.std.proofs.Common.{mul-pos}
use Rattle.std.specs.Prelude.{◌≤ℤ◌, ◌<ℤ◌, ◌≡◌, ◌∷◌, ◌*◌, ◌<◌, ◌+ℤ◌, ◌-ℤ◌, ◌*ℤ◌}
use Rattle.std.specs.Int.Signed.{lt_z_yes}
use Rattle.algebra.specs.Order.{0≤pos, ≤ℤ-antisym}
use Rattle.algebra.specs.Cert.{num, le, eq, sqr, ◌⊕◌, ◌⊗◌, by_le, by-le-times}
use Rattle.algebra.specs.Nearest.{away}
use Rattle.algebra.specs.NearestLaws.{Rounds, away-rounds}
use Rattle.algebra.specs.FractionLaws.{Near}
use Rattle.algebra.specs.Same.{pos-above, near-cross}
use Rattle.algebra.specs.Numerators.{same-fraction}
use Rattle.recipe.specs.CorrectionLaws.{power-is}
use Rattle.closeness.specs.Bins.{unstretched, exact-is}

pub rounds-square : {z q : ℤ} {m : ℕ} → Rounds z m q → (pos 4 *ℤ sq (pos m *ℤ q -ℤ z)) ≤ℤ sq (pos m)
rounds-square {z} {q} {m} h =
    let (Z, Q, M) = vars3 in
    by_le (z ∷ q ∷ pos m ∷ []) (# 4 ⊠ ((M ⊠ Q ⊟ Z) ⊠ (M ⊠ Q ⊟ Z))) (M ⊠ M) (le (# 2 ⊠ (M ⊠ Q ⊟ Z)) M h.up ⊗ le (# 2 ⊠ (Z ⊟ M ⊠ Q)) M h.down) tt

-- rounding G: the errors e, f of C·G against the error t, u of the Wiener step, of which a and b are the denominators
rounded-step : (a b c k p q t u e f d : ℤ) → pos 0 <ℤ (a *ℤ b *ℤ (a *ℤ b)) → a *ℤ b *ℤ e ≡ c *ℤ (a *ℤ p +ℤ t) → a *ℤ b *ℤ f ≡ c *ℤ (a *ℤ q +ℤ u) →
    (pos 4 *ℤ sq p) ≤ℤ sq b → (pos 4 *ℤ sq q) ≤ℤ sq b → (k *ℤ k *ℤ (sq t +ℤ sq u)) ≤ℤ (d *ℤ sq (b *ℤ a)) →
    (pos 10 *ℤ (k *ℤ k) *ℤ (sq e +ℤ sq f)) ≤ℤ (c *ℤ c *ℤ (pos 30 *ℤ (k *ℤ k) +ℤ pos 12 *ℤ d))
rounded-step a b c k p q t u e f d l he hf hp hq h =
    let (A, B, C, K, P, Q, T, U, E, F) = vars10 in
    let D = var 10 in
    let squared : Expr → Expr = λ z. z ⊠ z in
    let M = # 10 ⊠ (K ⊠ K) in
    by-le-times (a ∷ b ∷ c ∷ k ∷ p ∷ q ∷ t ∷ u ∷ e ∷ f ∷ d ∷ []) (A ⊠ B ⊠ (A ⊠ B)) (M ⊠ (squared E ⊞ squared F)) (C ⊠ C ⊠ (# 30 ⊠ (K ⊠ K) ⊞ # 12 ⊠ D))
    (eq (M ⊠ (A ⊠ B ⊠ E ⊞ C ⊠ (A ⊠ P ⊞ T))) (A ⊠ B ⊠ E) (C ⊠ (A ⊠ P ⊞ T)) he
    ⊕ eq (M ⊠ (A ⊠ B ⊠ F ⊞ C ⊠ (A ⊠ Q ⊞ U))) (A ⊠ B ⊠ F) (C ⊠ (A ⊠ Q ⊞ U)) hf
    ⊕ num 12 ⊗ sqr C ⊗ le (K ⊠ K ⊠ (squared T ⊞ squared U)) (D ⊠ squared (B ⊠ A)) h
    ⊕ num 15 ⊗ sqr (C ⊠ K ⊠ A) ⊗ (le (# 4 ⊠ squared P) (squared B) hp ⊕ le (# 4 ⊠ squared Q) (squared B) hq)
    ⊕ num 2 ⊗ sqr (C ⊠ K) ⊗ (sqr (# 5 ⊠ A ⊠ P ⊟ T) ⊕ sqr (# 5 ⊠ A ⊠ Q ⊟ U)))
    l tt

-- rounding the bin: Q against the exact bin (x, y)/(m·n), where the copy's bin is (X, Y) and Q is that over n, rounded
moved : (m n X Y q r x y : ℤ) → (pos 4 *ℤ sq (n *ℤ q -ℤ X)) ≤ℤ sq n → (pos 4 *ℤ sq (n *ℤ r -ℤ Y)) ≤ℤ sq n →
    (pos 4 *ℤ (sq (x -ℤ m *ℤ n *ℤ q) +ℤ sq (y -ℤ m *ℤ n *ℤ r))) ≤ℤ (pos 10 *ℤ (m *ℤ n *ℤ (m *ℤ n)) +ℤ pos 5 *ℤ (sq (m *ℤ X -ℤ x) +ℤ sq (m *ℤ Y -ℤ y)))
moved m n X Y q r x y hq hr =
    let (M, N, X', Y', Q, R, U, W) = vars8 in
    let squared : Expr → Expr = λ z. z ⊠ z in
    let d = M ⊠ X' ⊟ U in
    let e = M ⊠ Y' ⊟ W in
    by_le (m ∷ n ∷ X ∷ Y ∷ q ∷ r ∷ x ∷ y ∷ [])
    (# 4 ⊠ (squared (U ⊟ M ⊠ N ⊠ Q) ⊞ squared (W ⊟ M ⊠ N ⊠ R))) (# 10 ⊠ (M ⊠ N ⊠ (M ⊠ N)) ⊞ # 5 ⊠ (squared d ⊞ squared e))
    (num 5 ⊗ sqr M ⊗ (le (# 4 ⊠ squared (N ⊠ Q ⊟ X')) (squared N) hq ⊕ le (# 4 ⊠ squared (N ⊠ R ⊟ Y')) (squared N) hr)
    ⊕ sqr (# 4 ⊠ M ⊠ (N ⊠ Q ⊟ X') ⊟ d) ⊕ sqr (# 4 ⊠ M ⊠ (N ⊠ R ⊟ Y') ⊟ e)) tt

-- both
both-steps : (c k e d s : ℤ) → (pos 10 *ℤ (k *ℤ k) *ℤ e) ≤ℤ (c *ℤ c *ℤ (pos 30 *ℤ (k *ℤ k) +ℤ pos 12 *ℤ d)) → (pos 4 *ℤ d) ≤ℤ (pos 10 *ℤ (k *ℤ k) +ℤ pos 5 *ℤ s) →
    (pos 2 *ℤ (k *ℤ k) *ℤ e) ≤ℤ (c *ℤ c *ℤ (pos 12 *ℤ (k *ℤ k) +ℤ pos 3 *ℤ s))
both-steps c k e d s h g =
    let C = var 0 in
    let K = var 1 in
    let E = var 2 in
    let D = var 3 in
    let S = var 4 in
    by-le-times (c ∷ k ∷ e ∷ d ∷ s ∷ []) (# 5) (# 2 ⊠ (K ⊠ K) ⊠ E) (C ⊠ C ⊠ (# 12 ⊠ (K ⊠ K) ⊞ # 3 ⊠ S))
    (le (# 10 ⊠ (K ⊠ K) ⊠ E) (C ⊠ C ⊠ (# 30 ⊠ (K ⊠ K) ⊞ # 12 ⊠ D)) h ⊕ num 3 ⊗ sqr C ⊗ le (# 4 ⊠ D) (# 10 ⊠ (K ⊠ K) ⊞ # 5 ⊠ S) g) (lt_z_yes tt) tt

-- where V' is 0 there is no correction
nothing : (c k p n o d e : ℤ) → n ≡ pos 0 → o ≡ pos 0 → (pos 2 *ℤ (k *ℤ k) *ℤ (sq (c *ℤ pos 0 -ℤ p *ℤ n) +ℤ sq (c *ℤ pos 0 -ℤ p *ℤ o))) ≤ℤ (c *ℤ c *ℤ (pos 12 *ℤ (k *ℤ k) +ℤ pos 3 *ℤ (sq d +ℤ sq e)))
nothing c k p n o d e h g =
    let (C, K, P, N, O, D, E) = vars7 in
    let M = # 2 ⊠ (K ⊠ K) in
    let a = C ⊠ # 0 ⊟ P ⊠ N in
    let b = C ⊠ # 0 ⊟ P ⊠ O in
    by_le (c ∷ k ∷ p ∷ n ∷ o ∷ d ∷ e ∷ []) (M ⊠ (a ⊠ a ⊞ b ⊠ b)) (C ⊠ C ⊠ (# 12 ⊠ (K ⊠ K) ⊞ # 3 ⊠ (D ⊠ D ⊞ E ⊠ E)))
    (sqr C ⊗ (num 12 ⊗ sqr K ⊕ num 3 ⊗ (sqr D ⊕ sqr E)) ⊕ eq (M ⊠ P ⊠ P ⊠ N) N (# 0) h ⊕ eq (M ⊠ P ⊠ P ⊠ O) O (# 0) g) tt

none : {C : ℕ} {n : ℤ} → Near 0 1 n (pos C) (whole (pos 0)) → n ≡ pos 0
unfolding whole
none {C} {n} h = ring (n ∷ []) (var 0) (var 0 ⊠ # 1) tt ∙ near-cross h ∙ ring (pos C ∷ []) (var 0 ⊠ # 0) (# 0) tt

-- a·b times the error of C·G
error-is : (a b c s v k q x g n : ℤ) → n *ℤ (s *ℤ a) ≡ v *ℤ k *ℤ x *ℤ c → a *ℤ b *ℤ (c *ℤ g -ℤ s *ℤ n) ≡ c *ℤ (a *ℤ (b *ℤ g -ℤ v *ℤ q) +ℤ (v *ℤ q *ℤ a -ℤ v *ℤ k *ℤ x *ℤ b))
error-is a b c s v k q x g n h =
    let (A, B, C, S, W, K, Q, X, G, N) = vars10 in
    let xs = a ∷ b ∷ c ∷ s ∷ v ∷ k ∷ q ∷ x ∷ g ∷ n ∷ [] in
    let l = A ⊠ B ⊠ (C ⊠ G ⊟ S ⊠ N) in
    let r = C ⊠ (A ⊠ (B ⊠ G ⊟ W ⊠ Q) ⊞ (W ⊠ Q ⊠ A ⊟ W ⊠ K ⊠ X ⊠ B)) in
    ≤ℤ-antisym (by_le xs l r (eq (⊖ B) (N ⊠ (S ⊠ A)) (W ⊠ K ⊠ X ⊠ C) h) tt) (by_le xs r l (eq B (N ⊠ (S ⊠ A)) (W ⊠ K ⊠ X ⊠ C) h) tt)

power-swap : (v : ℕ) (q r : ℤ) → power v r q ≡ power v q r
power-swap v q r = omega arith

-- the copy's bin (X, Y), the exact bin (x, y)/(parts·m·w), where w counts sixteenths of the copy's bins, and n/C and o/C the parts of its exact correction
module _ (s : Side) (m w C : ℕ) (X Y x y n o : ℤ) {b c : Frac} (lm : 0 < m) (lw : 0 < w) (hb : Near 0 1 x (pos (s.parts * (m * w))) b) (hc : Near 0 1 y (pos (s.parts * (m * w))) c) where
  abbrev Stepped : ℤ → ℤ → Type 0
  Stepped g h =
      let k = pos (m * w) in
      (pos 2 *ℤ (k *ℤ k) *ℤ (sq (pos C *ℤ g -ℤ pos s.parts *ℤ n) +ℤ sq (pos C *ℤ h -ℤ pos s.parts *ℤ o)))
      ≤ℤ (pos C *ℤ pos C *ℤ (pos 12 *ℤ (k *ℤ k) +ℤ pos 3 *ℤ (sq (pos m *ℤ X -ℤ x) +ℤ sq (pos m *ℤ Y -ℤ y))))

  module _ (v : ℕ) (q r : ℤ) (hq : Rounds X w q) (hr : Rounds Y w r) (hn : Near 0 1 n (pos C) (exact_wiener s (suc v) b c)) (ho : Near 0 1 o (pos C) (exact_wiener s (suc v) c b)) where
    abbrev k : ℕ
    k = m * w

    abbrev A : ℕ
    A = power (suc v * (k * k)) x y

    abbrev B : ℕ
    B = power (suc v) q r

    k_above : 0 < k * k
    k_above = mul-pos (mul-pos lm lw) (mul-pos lm lw)

    denominators : 0 < A * B * (A * B)
    denominators = mul-pos (mul-pos a-above b-above) (mul-pos a-above b-above)
      where
        a-above : 0 < power (suc v * (k * k)) x y
        a-above = let z : 0 < suc v * (k * k) = mul-pos {m = suc v} (omega arith) k_above in omega arith

        b-above : 0 < power (suc v) q r
        b-above = omega arith

    stretch : (pos k *ℤ pos k *ℤ (sq (pos (suc v) *ℤ q *ℤ pos A -ℤ pos (suc v) *ℤ pos k *ℤ x *ℤ pos B) +ℤ sq (pos (suc v) *ℤ r *ℤ pos A -ℤ pos (suc v) *ℤ pos k *ℤ y *ℤ pos B))) ≤ℤ ((sq (x -ℤ pos k *ℤ q) +ℤ sq (y -ℤ pos k *ℤ r)) *ℤ sq (pos B *ℤ pos A))
    stretch =
        subst₂ (λ a b. (pos k *ℤ pos k *ℤ (sq (pos (suc v) *ℤ q *ℤ a -ℤ pos (suc v) *ℤ pos k *ℤ x *ℤ b) +ℤ sq (pos (suc v) *ℤ r *ℤ a -ℤ pos (suc v) *ℤ pos k *ℤ y *ℤ b))) ≤ℤ ((sq (x -ℤ pos k *ℤ q) +ℤ sq (y -ℤ pos k *ℤ r)) *ℤ sq (b *ℤ a)))
        (power-is (suc v * (k * k)) x y) (power-is (suc v) q r)
        (unstretched (pos (suc v)) (pos k) x y q r (0≤pos (suc v)) (pos-above (mul-pos k_above k_above)))

    re-is : (g : ℤ) → pos A *ℤ pos B *ℤ (pos C *ℤ g -ℤ pos s.parts *ℤ n) ≡ pos C *ℤ (pos A *ℤ (pos B *ℤ g -ℤ pos (suc v) *ℤ q) +ℤ (pos (suc v) *ℤ q *ℤ pos A -ℤ pos (suc v) *ℤ pos k *ℤ x *ℤ pos B))
    re-is g = error-is (pos A) (pos B) (pos C) (pos s.parts) (pos (suc v)) (pos k) q x g n (same-fraction hn (exact-is s v k x y hb hc))

    im-is : (h : ℤ) → pos A *ℤ pos B *ℤ (pos C *ℤ h -ℤ pos s.parts *ℤ o) ≡ pos C *ℤ (pos A *ℤ (pos B *ℤ h -ℤ pos (suc v) *ℤ r) +ℤ (pos (suc v) *ℤ r *ℤ pos A -ℤ pos (suc v) *ℤ pos k *ℤ y *ℤ pos B))
    im-is h =
        error-is (pos A) (pos B) (pos C) (pos s.parts) (pos (suc v)) (pos k) r y h o
        (subst (λ a. o *ℤ (pos s.parts *ℤ pos a) ≡ pos (suc v) *ℤ pos k *ℤ y *ℤ pos C) (power-swap (suc v * (k * k)) x y) (same-fraction ho (exact-is s v k y x hc hb)))

    stepped : (g h : ℤ) → Rounds (pos (suc v) *ℤ q) B g → Rounds (pos (suc v) *ℤ r) B h → Stepped g h
    stepped g h rg rh =
        both-steps (pos C) (pos k) (sq (pos C *ℤ g -ℤ pos s.parts *ℤ n) +ℤ sq (pos C *ℤ h -ℤ pos s.parts *ℤ o)) (sq (x -ℤ pos k *ℤ q) +ℤ sq (y -ℤ pos k *ℤ r)) (sq (pos m *ℤ X -ℤ x) +ℤ sq (pos m *ℤ Y -ℤ y))
        (rounded-step (pos A) (pos B) (pos C) (pos k) (pos B *ℤ g -ℤ pos (suc v) *ℤ q) (pos B *ℤ h -ℤ pos (suc v) *ℤ r) (pos (suc v) *ℤ q *ℤ pos A -ℤ pos (suc v) *ℤ pos k *ℤ x *ℤ pos B) (pos (suc v) *ℤ r *ℤ pos A -ℤ pos (suc v) *ℤ pos k *ℤ y *ℤ pos B)
        (pos C *ℤ g -ℤ pos s.parts *ℤ n) (pos C *ℤ h -ℤ pos s.parts *ℤ o) (sq (x -ℤ pos k *ℤ q) +ℤ sq (y -ℤ pos k *ℤ r)) (pos-above denominators) (re-is g) (im-is h) (rounds-square rg) (rounds-square rh) stretch)
        (moved (pos m) (pos w) X Y q r x y (rounds-square hq) (rounds-square hr))

  pub bin-step : (noise : ℕ) → Near 0 1 n (pos C) (exact_wiener s noise b c) → Near 0 1 o (pos C) (exact_wiener s noise c b) → (q r : ℤ) → Rounds X w q → Rounds Y w r → Stepped (wiener noise q r) (wiener noise r q)
  unfolding exact_wiener wiener
  bin-step zero hn ho q r hq hr = nothing (pos C) (pos (m * w)) (pos s.parts) n o (pos m *ℤ X -ℤ x) (pos m *ℤ Y -ℤ y) (none hn) (none ho)
  bin-step (suc v) hn ho q r hq hr =
      let b-above : 0 < power (suc v) q r = omega arith in
      subst (λ B. Stepped (away (pos (suc v) *ℤ q) (power (suc v) q r)) (away (pos (suc v) *ℤ r) B)) (sym (power-swap (suc v) q r))
      (stepped v q r hq hr hn ho (away (pos (suc v) *ℤ q) (power (suc v) q r)) (away (pos (suc v) *ℤ r) (power (suc v) q r)) (away-rounds (pos (suc v) *ℤ q) (power (suc v) q r) b-above) (away-rounds (pos (suc v) *ℤ r) (power (suc v) q r) b-above))
