-- The factors of side 16, each law one computed test over the tables: their size, and that eight rows or columns on they have the same sizes.
use Rattle.range_pair.specs.Prelude.{ap, ap₂, ◌∙◌, ℕ, arith, lit<, nat_abs, cos_at, sin_at, cosines, cosine16, sine16, side16, twiddle_re, twiddle_im}
use Rattle.std.proofs.Common.{mod-lt, eqb→eq, leb→le}
use Rattle.std.specs.Prelude.{T, eqb, leb, ◌≡◌, ◌+◌, ◌*◌, ◌/◌, ◌%◌, ◌≤◌, ◌<◌}
use Rattle.algebra.specs.Test.{all, all_sound}
use Rattle.range_pair.specs.Factors.{factor_re, factor_im, factor_most}

-- f and g agree below n and m
agree : (n m : ℕ) (f g : ℕ → ℕ → ℕ) → T (all n (λ i. all m (λ j. eqb (f i j) (g i j)))) → (i j : ℕ) → i < n → j < m → f i j ≡ g i j
agree n m f g t i j h k = eqb→eq (f i j) (g i j) (all_sound m (λ j. eqb (f i j) (g i j)) (all_sound n (λ i. all m (λ j. eqb (f i j) (g i j))) t i h) j k)

-- |Re| + |Im|
pub factor-most : (i j : ℕ) → i < 16 → j < 16 → factor_re i j + factor_im i j ≤ factor_most
unfolding cosines cosine16 sine16
factor-most i j h k =
    leb→le (factor_re i j + factor_im i j) factor_most
    (all_sound 16 (λ j. leb (factor_re i j + factor_im i j) factor_most) (all_sound 16 (λ i. all 16 (λ j. leb (factor_re i j + factor_im i j) factor_most)) tt i h) j k)

-- C(k + 8) = −C(k), so that a factor changes its sign, or nothing, eight further on
turned-re : (i j : ℕ) → i < 16 → j < 16 → factor_re i j ≡ factor_re (i % 8) (j % 8)
unfolding cosines cosine16 sine16
turned-re = agree 16 16 factor_re (λ i j. factor_re (i % 8) (j % 8)) tt

turned-im : (i j : ℕ) → i < 16 → j < 16 → factor_im i j ≡ factor_im (i % 8) (j % 8)
unfolding cosines cosine16 sine16
turned-im = agree 16 16 factor_im (λ i j. factor_im (i % 8) (j % 8)) tt

below : (k : ℕ) → k % 16 < 16
below k = mod-lt k (lit< tt)

eighth : (n m r : ℕ) → (n * (8 * m + r)) % 16 % 8 ≡ (n * r) % 8
eighth n m r = omega arith

eight : (n k : ℕ) → (n * k) % 16 % 8 ≡ (n * (k % 8)) % 8
eight n k =
    let e : k ≡ 8 * (k / 8) + k % 8 = omega arith in
    ap (λ k. (n * k) % 16 % 8) e ∙ eighth n (k / 8) (k % 8)

-- the factor of bin (u, v) at row y and column x
module _ (y x u v : ℕ) where
  pub factor-re : nat_abs (twiddle_re side16 y x u v) ≡ factor_re ((u * (y % 8)) % 8) ((v * (x % 8)) % 8)
  unfolding twiddle_re cos_at sin_at side16
  factor-re = turned-re ((u * y) % 16) ((v * x) % 16) (below (u * y)) (below (v * x)) ∙ ap₂ factor_re (eight u y) (eight v x)

  pub factor-im : nat_abs (twiddle_im side16 y x u v) ≡ factor_im ((u * (y % 8)) % 8) ((v * (x % 8)) % 8)
  unfolding twiddle_im cos_at sin_at side16
  factor-im = turned-im ((u * y) % 16) ((v * x) % 16) (below (u * y)) (below (v * x)) ∙ ap₂ factor_im (eight u y) (eight v x)
