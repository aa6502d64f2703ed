-- Sums in order: of equal numbers, of smaller ones, and of numbers that are not negative.
use Rattle.algebra.specs.Prelude.{refl, sym, ap, subst, ◌∙◌, [], ℕ, zero, suc, arith, ℤ, pos}
use Rattle.std.proofs.Common.{le_refl, add-one}
use Rattle.std.proofs.Math.Decide.{ℕ_discrete}
use Rattle.std.proofs.Math.IntN.{zero-*ℤ}
use Rattle.std.specs.Prelude.{◌≤ℤ◌, ◌≡◌, ◌∷◌, ◌<◌, ◌+ℤ◌, ◌*ℤ◌}
use Rattle.algebra.specs.Ring.{var, ◌⊞◌, ◌⊠◌, #◌, ring}
use Rattle.algebra.specs.Order.{zarith, add-pn, ≤ℤ-of-eq}
use Rattle.algebra.specs.Sums.{sum_z}
use Rattle.algebra.specs.SumLaws.{sum_z-0}

pub sum_z-const : (n : ℕ) (c : ℤ) → sum_z n (λ i. c) ≡ pos n *ℤ c
unfolding sum_z
sum_z-const zero c = sym (zero-*ℤ c)
sum_z-const (suc n) c =
    ap (λ t. t +ℤ c) (sum_z-const n c) ∙ ring (pos n ∷ c ∷ []) (var 0 ⊠ var 1 ⊞ var 1) ((var 0 ⊞ # 1) ⊠ var 1) tt ∙ ap (λ m. pos m *ℤ c) (add-one n)

pub sum_z-mono : (n : ℕ) (f g : ℕ → ℤ) → ((i : ℕ) → i < n → f i ≤ℤ g i) → sum_z n f ≤ℤ sum_z n g
unfolding sum_z
sum_z-mono zero f g h = ≤ℤ-of-eq refl
sum_z-mono (suc n) f g h =
    omega (zarith, sum_z-mono n f g (λ i l. h i (omega arith)), h n (le_refl (suc n)), add-pn (sum_z n f) (f n), add-pn (sum_z n g) (g n))

-- of numbers that are not negative: nor is the sum, and none is larger than it
pub sum_z-nonneg : (n : ℕ) (f : ℕ → ℤ) → ((i : ℕ) → i < n → pos 0 ≤ℤ f i) → pos 0 ≤ℤ sum_z n f
sum_z-nonneg n f h = subst (λ t. t ≤ℤ sum_z n f) (sum_z-0 n) (sum_z-mono n (λ i. pos 0) f h)

pub sum_z-at : (n : ℕ) (f : ℕ → ℤ) → ((i : ℕ) → i < n → pos 0 ≤ℤ f i) → (i : ℕ) → i < n → f i ≤ℤ sum_z n f
unfolding sum_z
sum_z-at zero f h i l = absurd (omega arith)
sum_z-at (suc n) f h i l = last (sum_z-at n f (λ i k. h i (omega arith)) i) (ℕ_discrete i n)
  where
    last : (i < n → f i ≤ℤ sum_z n f) → Dec (i ≡ n) → f i ≤ℤ (sum_z n f +ℤ f n)
    last g (yes e) = subst (λ j. f j ≤ℤ (sum_z n f +ℤ f n)) (sym e) (omega (zarith, add-pn (sum_z n f) (f n), sum_z-nonneg n f (λ i k. h i (omega arith))))
    last g (no c) = omega (zarith, add-pn (sum_z n f) (f n), g (omega arith), h n (le_refl (suc n)))
