-- Whatever the noise number between its ends, a tile's correction lies between the least and the greatest; and a larger correction gives a lower sample.
use Rattle.std.specs.Prelude.{◌∷◌, ◌*◌, ◌≤◌, ◌-ℤ◌, ◌*ℤ◌, ◌≤ℤ◌, ◌<ℤ◌}
use Rattle.range.specs.Prelude.{refl, [], ℕ, zero, suc, arith, lit<, ℤ, pos, negsuc, min_z, max_z, away, Side}
use Rattle.std.proofs.Common.{⊎_elim, mul-pos}
use Rattle.algebra.specs.Order.{zarith, sub-pn, 0≤pos, ≤ℤ-total, ≤ℤ-of-eq, <ℤ-≤ℤ}
use Rattle.algebra.specs.Vars.{vars3, vars4}
use Rattle.algebra.specs.Ring.{◌⊞◌, ◌⊠◌, ⊖◌, #◌}
use Rattle.algebra.specs.Cert.{nn, le, sqr, ◌⊕◌, ◌⊗◌, by_le, le-pos}
use Rattle.algebra.specs.SumOrder.{sum_z-mono}
use Rattle.algebra.specs.ClampLaws.{min_cases, max_cases}
use Rattle.recipe.specs.Correction.{power, wiener, quantized, bin_re, bin_im, filtered, twiddle_re, twiddle_im, inverse_re, inverse_at, correction_at}
use Rattle.recipe.specs.CorrectionLaws.{power-is}
use Rattle.recipe.specs.Output.{weight_in}
use Rattle.range.specs.Monotone.{away-mono, upward-mono, clamp-mono}
use Rattle.range.specs.Range.{end_re, least_at, greatest_at, sample_from}

-- ---- G's part rises from 0 with V where the part of Q is positive, and falls from 0 where it is negative

-- V·q·(|Q|² + V') ≤ V'·q·(|Q|² + V), for V ≤ V' and q ≥ 0
cross : (v v' : ℕ) (q r : ℤ) → v ≤ v' → pos 0 ≤ℤ q → (pos v *ℤ q *ℤ pos (power v' q r)) ≤ℤ (pos v' *ℤ q *ℤ pos (power v q r))
cross v v' q r h k =
    rw (← power-is v' q r, ← power-is v q r)
    (let (V', W, Q, R) = vars4 in
    by_le (pos v ∷ pos v' ∷ q ∷ r ∷ []) (V' ⊠ Q ⊠ (Q ⊠ Q ⊞ R ⊠ R ⊞ W)) (W ⊠ Q ⊠ (Q ⊠ Q ⊞ R ⊠ R ⊞ V'))
    (nn Q k ⊗ (sqr Q ⊕ sqr R) ⊗ le V' W (le-pos h)) tt)

-- and the other way round for q ≤ 0
cross-below : (v v' : ℕ) (q r : ℤ) → v ≤ v' → q ≤ℤ pos 0 → (pos v' *ℤ q *ℤ pos (power v q r)) ≤ℤ (pos v *ℤ q *ℤ pos (power v' q r))
cross-below v v' q r h k =
    rw (← power-is v' q r, ← power-is v q r)
    (let (V', W, Q, R) = vars4 in
    by_le (pos v ∷ pos v' ∷ q ∷ r ∷ []) (W ⊠ Q ⊠ (Q ⊠ Q ⊞ R ⊠ R ⊞ V')) (V' ⊠ Q ⊠ (Q ⊠ Q ⊞ R ⊠ R ⊞ W))
    (le Q (# 0) k ⊗ (sqr Q ⊕ sqr R) ⊗ le V' W (le-pos h)) tt)

module _ (q r : ℤ) where
  rises : (v v' : ℕ) → v ≤ v' → pos 0 ≤ℤ q → wiener v q r ≤ℤ wiener v' q r
  unfolding wiener away
  rises zero zero h k = 0≤pos 0
  rises zero (suc v) h k =
      away-mono (pos 0) (pos (suc v) *ℤ q) 1 (power (suc v) q r) (lit< tt) (omega arith)
      (let (W, Q, D) = vars3 in by_le (pos (suc v) ∷ q ∷ pos (power (suc v) q r) ∷ []) (# 0 ⊠ D) (W ⊠ Q ⊠ # 1) (nn W (0≤pos (suc v)) ⊗ nn Q k) tt)
  rises (suc v) zero h k = absurd (omega arith)
  rises (suc v) (suc v') h k =
      away-mono (pos (suc v) *ℤ q) (pos (suc v') *ℤ q) (power (suc v) q r) (power (suc v') q r) (omega arith) (omega arith) (cross (suc v) (suc v') q r h k)

  falls : (v v' : ℕ) → v ≤ v' → q ≤ℤ pos 0 → wiener v' q r ≤ℤ wiener v q r
  unfolding wiener away
  falls zero zero h k = 0≤pos 0
  falls zero (suc v) h k =
      away-mono (pos (suc v) *ℤ q) (pos 0) (power (suc v) q r) 1 (omega arith) (lit< tt)
      (let (W, Q, D) = vars3 in by_le (pos (suc v) ∷ q ∷ pos (power (suc v) q r) ∷ []) (W ⊠ Q ⊠ # 1) (# 0 ⊠ D) (nn W (0≤pos (suc v)) ⊗ le Q (# 0) k) tt)
  falls (suc v) zero h k = absurd (omega arith)
  falls (suc v) (suc v') h k =
      away-mono (pos (suc v') *ℤ q) (pos (suc v) *ℤ q) (power (suc v') q r) (power (suc v) q r) (omega arith) (omega arith) (cross-below (suc v) (suc v') q r h k)

-- ---- a number between two ends, whichever is the lower

data Between (a b z : ℤ) : Type 0 where
  rising : a ≤ℤ z → z ≤ℤ b → Between a b z
  falling : b ≤ℤ z → z ≤ℤ a → Between a b z

wiener-between : (lower noise upper : ℕ) (q r : ℤ) → lower ≤ noise → noise ≤ upper → Between (wiener lower q r) (wiener upper q r) (wiener noise q r)
wiener-between lower noise upper q r h k =
    ⊎_elim (λ (l : pos 0 ≤ℤ q). rising (rises q r lower noise h l) (rises q r noise upper k l))
    (λ (l : q <ℤ pos 0). falling (falls q r noise upper k (<ℤ-≤ℤ l)) (falls q r lower noise h (<ℤ-≤ℤ l)))
    (≤ℤ-total (pos 0) q)

times : (n : ℕ) {a b : ℤ} → a ≤ℤ b → (pos n *ℤ a) ≤ℤ (pos n *ℤ b)
times n {a} {b} h = let (N, A, B) = vars3 in by_le (pos n ∷ a ∷ b ∷ []) (N ⊠ A) (N ⊠ B) (nn N (0≤pos n) ⊗ le A B h) tt

times_below : (n : ℕ) {a b : ℤ} → a ≤ℤ b → (negsuc n *ℤ b) ≤ℤ (negsuc n *ℤ a)
times_below n {a} {b} h = let (N, A, B) = vars3 in by_le (pos (suc n) ∷ a ∷ b ∷ []) (⊖ N ⊠ B) (⊖ N ⊠ A) (nn N (0≤pos (suc n)) ⊗ le A B h) tt

scaled : (k : ℤ) {a b z : ℤ} → Between a b z → Between (k *ℤ a) (k *ℤ b) (k *ℤ z)
scaled (pos n) (rising h l) = rising (times n h) (times n l)
scaled (pos n) (falling h l) = falling (times n h) (times n l)
scaled (negsuc n) (rising h l) = falling (times_below n l) (times_below n h)
scaled (negsuc n) (falling h l) = rising (times_below n l) (times_below n h)

least : {a b z : ℤ} → Between a b z → min_z a b ≤ℤ z
least {a} {b} {z} (rising h l) = min_cases a b (λ m. m ≤ℤ z) (λ k. omega zarith) (λ k. h)
least {a} {b} {z} (falling h l) = min_cases a b (λ m. m ≤ℤ z) (λ k. h) (λ k. omega zarith)

greatest : {a b z : ℤ} → Between a b z → z ≤ℤ max_z a b
greatest {a} {b} {z} (rising h l) = max_cases a b (λ m. z ≤ℤ m) (λ k. l) (λ k. omega zarith)
greatest {a} {b} {z} (falling h l) = max_cases a b (λ m. z ≤ℤ m) (λ k. omega zarith) (λ k. l)

sub-mono : {a b c d : ℤ} → a ≤ℤ b → c ≤ℤ d → (a -ℤ d) ≤ℤ (b -ℤ c)
sub-mono {a} {b} {c} {d} h k = omega (zarith, sub-pn a d, sub-pn b c)

-- ---- one tile

module _ (s : Side) where
  rounded-mono : (z z' : ℤ) → z ≤ℤ z' → away z s.divisor ≤ℤ away z' s.divisor
  rounded-mono z z' h =
      let (Z, Z', D) = vars3 in
      away-mono z z' s.divisor s.divisor s.divisor_above s.divisor_above (by_le (z ∷ z' ∷ pos s.divisor ∷ []) (Z ⊠ D) (Z' ⊠ D) (le Z Z' h ⊗ nn D (0≤pos s.divisor)) tt)

  module _ (lower noise upper : ℕ) (h : lower ≤ noise) (k : noise ≤ upper) (d : ℕ → ℕ → ℤ) (y x : ℕ) where
    part : (t b c : ℤ) → Between (t *ℤ filtered s lower b c) (t *ℤ filtered s upper b c) (t *ℤ filtered s noise b c)
    unfolding filtered
    part t b c = scaled t (wiener-between lower noise upper (quantized s b) (quantized s c) h k)

    pub least-below : least_at s lower upper d y x ≤ℤ correction_at s noise d y x
    unfolding least_at end_re correction_at inverse_at inverse_re
    least-below =
        rounded-mono _ _
        (sum_z-mono s.side _ _ (λ u i. sum_z-mono s.side _ _ (λ v j.
        sub-mono (least (part (twiddle_re s y x u v) (bin_re s d u v) (bin_im s d u v))) (greatest (part (twiddle_im s y x u v) (bin_im s d u v) (bin_re s d u v))))))

    pub greatest-above : correction_at s noise d y x ≤ℤ greatest_at s lower upper d y x
    unfolding greatest_at end_re correction_at inverse_at inverse_re
    greatest-above =
        rounded-mono _ _
        (sum_z-mono s.side _ _ (λ u i. sum_z-mono s.side _ _ (λ v j.
        sub-mono (greatest (part (twiddle_re s y x u v) (bin_re s d u v) (bin_im s d u v))) (least (part (twiddle_im s y x u v) (bin_im s d u v) (bin_re s d u v))))))

-- ---- one sample

module _ (s : Side) (a b others : ℕ) where
  -- a larger correction gives a lower sample
  pub sample-falls : (P P' : ℕ → ℕ → ℤ) (t0 : ℤ) → ((t z : ℕ) → P t z ≤ℤ P' t z) → sample_from s a b others P' t0 ≤ℤ sample_from s a b others P t0
  sample-falls P P' t0 h =
      let whole = 256 * (s.weight * suc others) in
      clamp-mono (pos 0) (pos 4095) _ _ (0≤pos 4095)
      (upward-mono _ _ whole (mul-pos {m = 256} (lit< tt) (mul-pos s.weight_above (omega arith)))
      (sub-mono (≤ℤ-of-eq {a = t0 *ℤ pos whole} refl) (sum_z-mono 4 _ _ (λ t i. sum_z-mono others _ _ (λ z j. times (weight_in s a b t) (h t z))))))
