-- Laws of finite sums.
use Rattle.algebra.specs.Prelude.{refl, sym, ap, ap₂, ◌∙◌, arith}
use Rattle.std.specs.Prelude.{ℕ, zero, suc, ◌+◌, ◌*◌, ◌≤◌, ◌<◌, ℤ, pos, neg_ℤ, nat_abs, ◌+ℤ◌, ◌-ℤ◌, ◌*ℤ◌, ◌≡◌}
use Rattle.std.proofs.Common.{zero-le, le_refl, le_trans, add-le-add, zero-add, suc-add, zero-mul, mul-zero, add-zero, add-suc, suc-mul}
use Rattle.std.proofs.Math.IntN.{+ℤ_assoc, +ℤ_idr, *ℤ-zero, zero-*ℤ, neg_ℤ-+ℤ}
use Rattle.algebra.specs.Laws.{*ℤ-distl, *ℤ-distr, +ℤ-swap}
use Rattle.algebra.specs.Order.{abs-add}
use Rattle.algebra.specs.Sums.{sum_z, sum_n}

-- ---- the clauses, as lemmas

pub sum_z-suc : (n : ℕ) (f : ℕ → ℤ) → sum_z (suc n) f ≡ sum_z n f +ℤ f n
unfolding sum_z
sum_z-suc n f = refl

-- ---- congruence, on the indices that count

pub sum_z-cong : (n : ℕ) (f g : ℕ → ℤ) → ((i : ℕ) → i < n → f i ≡ g i) → sum_z n f ≡ sum_z n g
unfolding sum_z
sum_z-cong zero f g h = refl
sum_z-cong (suc n) f g h = ap₂ ◌+ℤ◌ (sum_z-cong n f g (λ i k. h i (omega arith))) (h n (le_refl (suc n)))

pub sum_n-cong : (n : ℕ) (f g : ℕ → ℕ) → ((i : ℕ) → i < n → f i ≡ g i) → sum_n n f ≡ sum_n n g
unfolding sum_n
sum_n-cong zero f g h = refl
sum_n-cong (suc n) f g h = ap₂ ◌+◌ (sum_n-cong n f g (λ i k. h i (omega arith))) (h n (le_refl (suc n)))

-- ---- linearity

pub sum_z-0 : (n : ℕ) → sum_z n (λ i. pos 0) ≡ pos 0
unfolding sum_z
sum_z-0 zero = refl
sum_z-0 (suc n) = +ℤ_idr (sum_z n (λ i. pos 0)) ∙ sum_z-0 n

pub sum_z-add : (n : ℕ) (f g : ℕ → ℤ) → sum_z n (λ i. f i +ℤ g i) ≡ sum_z n f +ℤ sum_z n g
unfolding sum_z
sum_z-add zero f g = refl
sum_z-add (suc n) f g = ap (λ t. t +ℤ (f n +ℤ g n)) (sum_z-add n f g) ∙ +ℤ-swap (sum_z n f) (sum_z n g) (f n) (g n)

pub sum_z-scale : (n : ℕ) (c : ℤ) (f : ℕ → ℤ) → sum_z n (λ i. c *ℤ f i) ≡ c *ℤ sum_z n f
unfolding sum_z
sum_z-scale zero c f = sym (*ℤ-zero c)
sum_z-scale (suc n) c f = ap (λ t. t +ℤ c *ℤ f n) (sum_z-scale n c f) ∙ sym (*ℤ-distl c (sum_z n f) (f n))

pub sum_z-scaler : (n : ℕ) (c : ℤ) (f : ℕ → ℤ) → sum_z n (λ i. f i *ℤ c) ≡ sum_z n f *ℤ c
unfolding sum_z
sum_z-scaler zero c f = sym (zero-*ℤ c)
sum_z-scaler (suc n) c f = ap (λ t. t +ℤ f n *ℤ c) (sum_z-scaler n c f) ∙ sym (*ℤ-distr (sum_z n f) (f n) c)

pub sum_z-neg : (n : ℕ) (f : ℕ → ℤ) → sum_z n (λ i. neg_ℤ (f i)) ≡ neg_ℤ (sum_z n f)
unfolding sum_z
sum_z-neg zero f = refl
sum_z-neg (suc n) f = ap (λ t. t +ℤ neg_ℤ (f n)) (sum_z-neg n f) ∙ sym (neg_ℤ-+ℤ (sum_z n f) (f n))

pub sum_z-sub : (n : ℕ) (f g : ℕ → ℤ) → sum_z n (λ i. f i -ℤ g i) ≡ sum_z n f -ℤ sum_z n g
sum_z-sub n f g = sum_z-add n f (λ i. neg_ℤ (g i)) ∙ ap (λ t. sum_z n f +ℤ t) (sum_z-neg n g)

-- the order of two sums does not matter
pub sum_z-exchange : (n m : ℕ) (f : ℕ → ℕ → ℤ) → sum_z n (λ i. sum_z m (f i)) ≡ sum_z m (λ j. sum_z n (λ i. f i j))
unfolding sum_z
sum_z-exchange zero m f = sym (sum_z-0 m)
sum_z-exchange (suc n) m f = ap (λ t. t +ℤ sum_z m (f n)) (sum_z-exchange n m f) ∙ sym (sum_z-add m (λ j. sum_z n (λ i. f i j)) (f n))

pub sum_n-scale : (n c : ℕ) (f : ℕ → ℕ) → sum_n n (λ i. c * f i) ≡ c * sum_n n f
unfolding sum_n
sum_n-scale zero c f = sym (mul-zero c)
sum_n-scale (suc n) c f = omega (arith, sum_n-scale n c f)

pub sum_n-const : (n c : ℕ) → sum_n n (λ i. c) ≡ n * c
unfolding sum_n
sum_n-const zero c = sym (zero-mul c)
sum_n-const (suc n) c = omega (arith, sum_n-const n c)

-- ---- order

pub sum_n-mono : (n : ℕ) (f g : ℕ → ℕ) → ((i : ℕ) → i < n → f i ≤ g i) → sum_n n f ≤ sum_n n g
unfolding sum_n
sum_n-mono zero f g h = zero-le
sum_n-mono (suc n) f g h = add-le-add (sum_n-mono n f g (λ i k. h i (omega arith))) (h n (le_refl (suc n)))

pub sum_n-bound : (n B : ℕ) (f : ℕ → ℕ) → ((i : ℕ) → i < n → f i ≤ B) → sum_n n f ≤ n * B
sum_n-bound n B f h = omega (arith, sum_n-mono n f (λ i. B) h, sum_n-const n B)

-- the triangle inequality
pub abs-sum : (n : ℕ) (f : ℕ → ℤ) → nat_abs (sum_z n f) ≤ sum_n n (λ i. nat_abs (f i))
unfolding sum_z sum_n
abs-sum zero f = zero-le
abs-sum (suc n) f = le_trans (abs-add (sum_z n f) (f n)) (add-le-add (abs-sum n f) (le_refl (nat_abs (f n))))

pub abs-sum-bound : (n B : ℕ) (f : ℕ → ℤ) → ((i : ℕ) → i < n → nat_abs (f i) ≤ B) → nat_abs (sum_z n f) ≤ n * B
abs-sum-bound n B f h = le_trans (abs-sum n f) (sum_n-bound n B (λ i. nat_abs (f i)) h)

-- ---- parts

pub sum_z-parts : (m n : ℕ) (f : ℕ → ℤ) → sum_z (n + m) f ≡ sum_z m f +ℤ sum_z n (λ i. f (i + m))
unfolding sum_z
sum_z-parts m zero f = ap (λ k. sum_z k f) (zero-add m) ∙ sym (+ℤ_idr (sum_z m f))
sum_z-parts m (suc n) f =
    ap (λ k. sum_z k f) (suc-add n m)
    ∙ ap (λ t. t +ℤ f (n + m)) (sum_z-parts m n f)
    ∙ +ℤ_assoc (sum_z m f) (sum_z n (λ i. f (i + m))) (f (n + m))

-- ---- over ℕ: in another order, by rows, and moved by one place

pub sum_n-add : (n : ℕ) (f g : ℕ → ℕ) → sum_n n (λ i. f i + g i) ≡ sum_n n f + sum_n n g
unfolding sum_n
sum_n-add zero f g = refl
sum_n-add (suc n) f g = omega (arith, sum_n-add n f g)

-- the order of two sums does not matter
pub sum_n-exchange : (m n : ℕ) (f : ℕ → ℕ → ℕ) → sum_n m (λ i. sum_n n (f i)) ≡ sum_n n (λ j. sum_n m (λ i. f i j))
unfolding sum_n
sum_n-exchange zero n f = omega (arith, sum_n-const n 0)
sum_n-exchange (suc m) n f = omega (arith, sum_n-exchange m n f, sum_n-add n (λ j. sum_n m (λ i. f i j)) (f m))

-- n terms, and m after them
sum_n-parts : (n m : ℕ) (f : ℕ → ℕ) → sum_n (n + m) f ≡ sum_n n f + sum_n m (λ i. f (n + i))
unfolding sum_n
sum_n-parts n zero f = ap (λ k. sum_n k f) (add-zero n) ∙ omega arith
sum_n-parts n (suc m) f = ap (λ k. sum_n k f) (add-suc n m) ∙ omega (arith, sum_n-parts n m f)

-- m rows of n terms
pub sum_n-rows : (m n : ℕ) (f : ℕ → ℕ) → sum_n (m * n) f ≡ sum_n m (λ i. sum_n n (λ j. f (i * n + j)))
unfolding sum_n
sum_n-rows zero n f = ap (λ k. sum_n k f) (zero-mul n)
sum_n-rows (suc m) n f = ap (λ k. sum_n k f) (suc-mul m n) ∙ omega (arith, sum_n-parts (m * n) n f, sum_n-rows m n f)

-- moved by one place a sum loses its first term and gains one
pub sum_n-moved : (n : ℕ) (f : ℕ → ℕ) → sum_n n (λ i. f (suc i)) + f 0 ≡ sum_n n f + f n
unfolding sum_n
sum_n-moved zero f = refl
sum_n-moved (suc n) f = omega (arith, sum_n-moved n f)

-- a relation of the terms that holds of the sums
pub sum_n-balance : (n : ℕ) (f g h k : ℕ → ℕ) → ((i : ℕ) → f i + g i ≡ 2 * h i + k i) → sum_n n f + sum_n n g ≡ 2 * sum_n n h + sum_n n k
unfolding sum_n
sum_n-balance zero f g h k e = refl
sum_n-balance (suc n) f g h k e = omega (arith, sum_n-balance n f g h k e, e n)
