-- Fractions as numerators over one denominator. `Near 0 1 a (pos k) x` says that x is a/k.
use Rattle.std.specs.Prelude.{◌≡◌, ◌∷◌, ◌*◌, ◌/◌, ◌≤◌, ◌<◌, ◌-ℤ◌, ◌*ℤ◌}
use Rattle.algebra.specs.Prelude.{sym, ◌∙◌, ap, subst, [], ℕ, zero, suc, arith, lit<, ℤ, pos, nat_abs}
use Rattle.std.proofs.Common.{le_refl, mul-pos, mul_comm, mul_assoc, mul-div_cancel}
use Rattle.std.proofs.Math.Decide.{ℕ_discrete}
use Rattle.std.proofs.Math.IntN.{*ℤ_comm}
use Rattle.algebra.specs.Laws.{*ℤ-assoc}
use Rattle.algebra.specs.Vars.{vars6, vars8}
use Rattle.algebra.specs.Ring.{◌⊟◌, ◌⊠◌, ⊖◌}
use Rattle.algebra.specs.Order.{≤ℤ-antisym, abs-upper, abs-lower, abs-le, 0≤pos}
use Rattle.algebra.specs.Cert.{nn, le, eq, ◌⊕◌, ◌⊗◌, by-le-times}
use Rattle.algebra.specs.Sums.{sum_z}
use Rattle.algebra.specs.Fraction.{Frac, ◌·F◌, sum_f}
use Rattle.algebra.specs.FractionLaws.{Near, near-scale, near-sums, near-mono}
use Rattle.algebra.specs.Same.{pos-above, near_same, near-cross}

-- ---- one denominator for many fractions

-- D is a multiple of x's denominator
pub record Clears (D : ℕ) (x : Frac) : Type 0 where
  pub times : ℕ
  pub is : times * x.den ≡ D

pub clears-own : (x : Frac) → Clears x.den x
clears-own x = record { times = 1; is = omega arith }

pub clears-times : {D : ℕ} {x : Frac} (k : ℕ) → Clears D x → Clears (k * D) x
clears-times {D} {x} k c = record { times = k * c.times; is = mul_assoc k c.times x.den ∙ ap (λ m. k * m) c.is }

-- x is numerator/D
unfoldable pub numerator : ℕ → Frac → ℤ
numerator D x = x.num *ℤ pos (D / x.den)

pub numerator-is : {D : ℕ} {x : Frac} → Clears D x → Near 0 1 (numerator D x) (pos D) x
unfolding numerator
numerator-is {D} {x} c =
    near_same
    (*ℤ-assoc x.num (pos (D / x.den)) (pos x.den)
    ∙ ap (λ n. x.num *ℤ pos n) (ap (λ n. n * x.den) (ap (λ n. n / x.den) (sym c.is) ∙ mul-div_cancel c.times x.above) ∙ c.is)
    ∙ *ℤ_comm x.num (pos D))

-- what holds of multiples, and of some number for each i, holds of one number for all i
pub common : (R : ℕ → ℕ → Type 0) → ((i D k : ℕ) → R i D → R i (k * D)) → (n : ℕ) → ((i : ℕ) → i < n → (D : ℕ) × (0 < D) × R i D) → (D : ℕ) × (0 < D) × ((i : ℕ) → i < n → R i D)
common R m zero h = (1, lit< tt, λ i l. absurd (omega arith))
common R m (suc n) h =
    let a = common R m n (λ i l. h i (omega arith)) in
    let b = h n (le_refl (suc n)) in
    (b.0 * a.0, mul-pos b.1 a.1, λ i l. last i l a.0 b.0 (a.2 i) b.2 (ℕ_discrete i n))
  where
    last : (i : ℕ) → i < suc n → (D E : ℕ) → (i < n → R i D) → R n E → Dec (i ≡ n) → R i (E * D)
    last i l D E f g (yes e) = subst (λ j. R j (E * D)) (sym e) (subst (R n) (mul_comm D E) (m n E D g))
    last i l D E f g (no c) = m i D E (f (omega arith))

-- of two tiles of fractions, and of the two of each of k
abbrev pub ClearsBoth : ℕ → ℕ → (f g : ℕ → ℕ → Frac) → Type 0
ClearsBoth n D f g = (u : ℕ) → u < n → (v : ℕ) → v < n → Clears D (f u v) × Clears D (g u v)

pub tile-common : (n : ℕ) (f g : ℕ → ℕ → Frac) → (D : ℕ) × (0 < D) × ClearsBoth n D f g
tile-common n f g =
    common (λ u D. (v : ℕ) → v < n → Clears D (f u v) × Clears D (g u v)) (λ u D k h v l. (clears-times k (h v l).0, clears-times k (h v l).1)) n
    (λ u i. common (λ v D. Clears D (f u v) × Clears D (g u v)) (λ v D k h. (clears-times k h.0, clears-times k h.1)) n
    (λ v j. ((f u v).den * (g u v).den, mul-pos (f u v).above (g u v).above, (subst (λ D. Clears D (f u v)) (mul_comm (g u v).den (f u v).den) (clears-times (g u v).den (clears-own (f u v))), clears-times (f u v).den (clears-own (g u v))))))

pub tiles-common : (k n : ℕ) (f g : ℕ → ℕ → ℕ → Frac) → (D : ℕ) × (0 < D) × ((z : ℕ) → z < k → ClearsBoth n D (f z) (g z))
tiles-common k n f g =
    common (λ z D. ClearsBoth n D (f z) (g z)) (λ z D k h u i v j. (clears-times k (h u i v j).0, clears-times k (h u i v j).1)) k (λ z l. tile-common n (f z) (g z))

-- ---- laws of x = a/k

pub same_scale : {a k : ℤ} {x : Frac} (c : ℤ) → Near 0 1 a k x → Near 0 1 (c *ℤ a) k (c ·F x)
same_scale c h = near-mono (lit< tt) (omega arith) (near-scale c h)

pub same-scaled : {a k : ℤ} {x : Frac} (c : ℤ) → Near 0 1 a k x → Near 0 1 (a *ℤ c) k (c ·F x)
same-scaled {a} {k} {x} c h = subst (λ t. Near 0 1 t k (c ·F x)) (*ℤ_comm c a) (same_scale c h)

pub same-times : {a k : ℤ} {x : Frac} (c : ℤ) → Near 0 1 a k x → Near 0 1 (c *ℤ a) (c *ℤ k) x
same-times {a} {k} {x} c h =
    near_same (*ℤ-assoc c a (pos x.den) ∙ ap (λ t. c *ℤ t) (near-cross h) ∙ sym (*ℤ-assoc c k x.num))

pub same_sum : (n : ℕ) {k : ℤ} (a : ℕ → ℤ) (f : ℕ → Frac) → ((i : ℕ) → i < n → Near 0 1 (a i) k (f i)) → Near 0 1 (sum_z n a) k (sum_f n f)
same_sum n a f h = near-mono (lit< tt) (omega arith) (near-sums n a f h)

-- a fraction that is a/k and b/l
pub same-fraction : {a b k l : ℤ} {x : Frac} → Near 0 1 a k x → Near 0 1 b l x → a *ℤ l ≡ b *ℤ k
same-fraction {a} {b} {k} {l} {x} h g =
    let (A, B, K, L, N, M) = vars6 in
    let xs = a ∷ b ∷ k ∷ l ∷ x.num ∷ pos x.den ∷ [] in
    ≤ℤ-antisym
    (by-le-times xs M (A ⊠ L) (B ⊠ K) (eq L (A ⊠ M) (K ⊠ N) (near-cross h) ⊕ eq (⊖ K) (B ⊠ M) (L ⊠ N) (near-cross g)) (pos-above x.above) tt)
    (by-le-times xs M (B ⊠ K) (A ⊠ L) (eq (⊖ L) (A ⊠ M) (K ⊠ N) (near-cross h) ⊕ eq K (B ⊠ M) (L ⊠ N) (near-cross g)) (pos-above x.above) tt)

-- ---- a whole number near k·x, where x is m/D

module _ {e d : ℕ} {a k m : ℤ} {D : ℕ} {x : Frac} (s : Near 0 1 m (pos D) x) where
  pub cleared : Near e d a k x → nat_abs (pos d *ℤ (pos D *ℤ a -ℤ k *ℤ m)) ≤ e * D
  cleared h =
      let (E, P, A, K, M, C, N, Q) = vars8 in
      let xs = pos e ∷ pos d ∷ a ∷ k ∷ m ∷ pos D ∷ x.num ∷ pos x.den ∷ [] in
      let z = P ⊠ (C ⊠ A ⊟ K ⊠ M) in
      abs-le _
      (by-le-times xs Q (⊖ (E ⊠ C)) z (nn C (0≤pos D) ⊗ le (P ⊠ (K ⊠ N ⊟ A ⊠ Q)) (E ⊠ Q) h.less ⊕ eq (⊖ (P ⊠ K)) (C ⊠ N) (M ⊠ Q) (sym (near-cross s))) (pos-above x.above) tt)
      (by-le-times xs Q z (E ⊠ C) (nn C (0≤pos D) ⊗ le (P ⊠ (A ⊠ Q ⊟ K ⊠ N)) (E ⊠ Q) h.more ⊕ eq (P ⊠ K) (C ⊠ N) (M ⊠ Q) (sym (near-cross s))) (pos-above x.above) tt)

  pub restored : 0 < D → nat_abs (pos d *ℤ (pos D *ℤ a -ℤ k *ℤ m)) ≤ e * D → Near e d a k x
  restored l h =
      let (E, P, A, K, M, C, N, Q) = vars8 in
      let xs = pos e ∷ pos d ∷ a ∷ k ∷ m ∷ pos D ∷ x.num ∷ pos x.den ∷ [] in
      let z = P ⊠ (C ⊠ A ⊟ K ⊠ M) in
      record {
        more = by-le-times xs C (P ⊠ (A ⊠ Q ⊟ K ⊠ N)) (E ⊠ Q) (nn Q (0≤pos x.den) ⊗ le z (E ⊠ C) (abs-upper _ h) ⊕ eq (P ⊠ K) (M ⊠ Q) (C ⊠ N) (near-cross s)) (pos-above l) tt;
        less = by-le-times xs C (P ⊠ (K ⊠ N ⊟ A ⊠ Q)) (E ⊠ Q) (nn Q (0≤pos x.den) ⊗ le (⊖ (E ⊠ C)) z (abs-lower _ h) ⊕ eq (⊖ (P ⊠ K)) (M ⊠ Q) (C ⊠ N) (near-cross s)) (pos-above l) tt;
      }
