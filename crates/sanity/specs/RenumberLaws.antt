-- A sum does not depend on the order of its terms.
use Rattle.sanity.specs.Prelude.{sym, ap, ap₂, ◌∙◌, cond, ℕ, zero, suc, arith, eqb, sum_z}
use Rattle.std.proofs.Math.Decide.{ℕ_discrete}
use Rattle.std.specs.Prelude.{ℤ, pos, ◌+ℤ◌, ◌≡◌, ◌<◌}
use Rattle.std.proofs.Math.IntN.{+ℤ_idl, +ℤ_idr}
use Rattle.std.proofs.Common.{eq-eqb, ne_eqb}
use Rattle.algebra.specs.SumLaws.{sum_z-cong, sum_z-0, sum_z-add}
use Rattle.tile_spectrum.specs.ZeroLaws.{sum_z-zero}

-- a renumbering of 0 .. n − 1, and the one that undoes it
pub record Renumbering (n : ℕ) (to from : ℕ → ℕ) : Type 0 where
  pub to_below : (i : ℕ) → i < n → to i < n
  pub from_below : (i : ℕ) → i < n → from i < n
  pub from_to : (i : ℕ) → i < n → from (to i) ≡ i
  pub to_from : (i : ℕ) → i < n → to (from i) ≡ i

-- x where a and b are the same
unfoldable only : ℕ → ℕ → ℤ → ℤ
only a b x = cond (eqb a b) x (pos 0)

only_same : (a b : ℕ) (x : ℤ) → a ≡ b → only a b x ≡ x
unfolding only
only_same a b x e = rw (eq-eqb a b e)

only-other : (a b : ℕ) (x : ℤ) → (a ≡ b → ⊥) → only a b x ≡ pos 0
unfolding only
only-other a b x h = rw (ne_eqb a b h)

-- one term of a sum
one-term : (n a : ℕ) (f : ℕ → ℤ) → a < n → sum_z n (λ i. only a i (f i)) ≡ f a
unfolding sum_z
one-term zero a f h = absurd (omega arith)
one-term (suc n) a f h = by (one-term n a f) (ℕ_discrete a n)
  where
    by : (a < n → sum_z n (λ i. only a i (f i)) ≡ f a) → Dec (a ≡ n) → sum_z n (λ i. only a i (f i)) +ℤ only a n (f n) ≡ f a
    by before (yes e) = ap₂ ◌+ℤ◌ (sum_z-zero n _ (λ i l. only-other a i (f i) (λ p. omega arith))) (only_same a n (f n) e) ∙ +ℤ_idl (f n) ∙ ap f (sym e)
    by before (no e) = ap₂ ◌+ℤ◌ (before (omega arith)) (only-other a n (f n) e) ∙ +ℤ_idr (f a)

-- sums of sums, either way round
sum-swap : (m n : ℕ) (f : ℕ → ℕ → ℤ) → sum_z m (λ i. sum_z n (λ j. f i j)) ≡ sum_z n (λ j. sum_z m (λ i. f i j))
unfolding sum_z
sum-swap zero n f = sym (sum_z-0 n)
sum-swap (suc m) n f = ap (λ z. z +ℤ sum_z n (λ j. f m j)) (sum-swap m n f) ∙ sym (sum_z-add n (λ j. sum_z m (λ i. f i j)) (λ j. f m j))

module _ {n : ℕ} {to from : ℕ → ℕ} (r : Renumbering n to from) where
  matched : (i j : ℕ) (x : ℤ) → i < n → j < n → only (to i) j x ≡ only (from j) i x
  matched i j x h k = by (ℕ_discrete (to i) j)
    where
      by : Dec (to i ≡ j) → only (to i) j x ≡ only (from j) i x
      by (yes e) = only_same (to i) j x e ∙ sym (only_same (from j) i x (ap from (sym e) ∙ r.from_to i h))
      by (no e) = only-other (to i) j x e ∙ sym (only-other (from j) i x (λ p. e (ap to (sym p) ∙ r.to_from j k)))

  pub sum-renumbered : (f : ℕ → ℤ) → sum_z n (λ i. f (to i)) ≡ sum_z n f
  sum-renumbered f =
      sum_z-cong n _ _ (λ i h. sym (one-term n (to i) f (r.to_below i h)))
      ∙ sum-swap n n (λ i j. only (to i) j (f j))
      ∙ sum_z-cong n _ _ (λ j k. sum_z-cong n _ _ (λ i h. matched i j (f j) h k) ∙ one-term n (from j) (λ i. f j) (r.from_below j k))
