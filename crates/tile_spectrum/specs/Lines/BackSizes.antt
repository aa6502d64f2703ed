-- How large the sums back of a line are: the places' bound times what the magnitudes of the basis add up to.
use Rattle.std.specs.Prelude.{◌≡◌, ◌+◌, ◌*◌, ◌/◌, ◌%◌, ◌≤◌, ◌*ℤ◌}
use Rattle.tile_spectrum.specs.Lines.Prelude.{sym, ap, subst, ◌∙◌, ℕ, T, leb, ℤ, nat_abs, leb→le, sum_z, sum_n, Side, cos_at, cosines, cosine16, side16}
use Rattle.std.proofs.Common.{le_refl, le_trans, mod-lt, mul-le-mul_left, add_assoc, mul-add, mul_assoc, mul_comm}
use Rattle.std.proofs.Math.Nat.{div-add-mod, mul-add-mod_self_right}
use Rattle.algebra.specs.Order.{abs-mul-le}
use Rattle.algebra.specs.Test.{all, all_sound}
use Rattle.algebra.specs.SumLaws.{sum_n-cong, sum_n-mono, sum_n-scale, abs-sum}
use Rattle.recipe.specs.Tables32.{cosines32, cosine32, side32}
use Rattle.tile_spectrum.specs.Lines.Halfcomplex.{half_z, frequency_of, phase_of, basis_of, backward_of, half_basis_of, half_sum_of, backward, half_sum}
use Rattle.tile_spectrum.specs.Lines.Fold.{odd_sum_of, even_half_of, odd_sum, even_half}
use Rattle.tile_spectrum.specs.Lines.Magnitudes.{basis_sum, half_basis_sum, even_half_sum, odd_basis_sum, long_basis_sum, long_half_basis_sum}

-- ---- the basis at a number is that at the number modulo the side

index-period : (m f n p : ℕ) → (f * n + p) % m ≡ (f * (n % m) + p) % m
index-period m f n p =
    let q = n / m in
    let r = n % m in
    let e : f * n ≡ f * q * m + f * r =
    ap (λ n. f * n) (sym (div-add-mod n m)) ∙ mul-add f (m * q) r ∙ ap (λ t. t + f * r) (ap (λ t. f * t) (mul_comm m q) ∙ sym (mul_assoc f q m)) in
    ap (λ t. (t + p) % m) e ∙ ap (λ t. t % m) (add_assoc (f * q * m) (f * r) p) ∙ mul-add-mod_self_right (f * q) m (f * r + p)

module _ (s : Side) (k n : ℕ) where
  pub basis-period : basis_of s k n ≡ basis_of s k (n % s.side)
  unfolding basis_of cos_at
  basis-period = ap s.cosine (index-period s.side (frequency_of s k) n (phase_of s k))

  half-basis-period : half_basis_of s k n ≡ half_basis_of s k (n % s.side)
  unfolding half_basis_of
  half-basis-period = rw basis-period

-- ---- the magnitudes of a basis, added up over m places: one computed test over the numbers of a line

module _ (s : Side) (w : (k n : ℕ) → ℤ) (period : (k n : ℕ) → w k n ≡ w k (n % s.side)) where
  pub summed : (m b : ℕ) → T (all s.side (λ n. leb (sum_n m (λ k. nat_abs (w k n))) b)) → (n : ℕ) → sum_n m (λ k. nat_abs (w k n)) ≤ b
  summed m b t n =
      subst (λ a. a ≤ b) (sym (sum_n-cong m (λ k. nat_abs (w k n)) (λ k. nat_abs (w k (n % s.side))) (λ k l. ap nat_abs (period k n))))
      (leb→le _ b (all_sound s.side (λ n. leb (sum_n m (λ k. nat_abs (w k n))) b) t (n % s.side) (mod-lt n s.side_above)))

-- over the places of a line, and for half of the sum
pub record BackSums (s : Side) (whole half : ℕ) : Type 0 where
  pub basis-sum : (n : ℕ) → sum_n s.side (λ k. nat_abs (basis_of s k n)) ≤ whole
  pub half-basis-sum : (n : ℕ) → sum_n s.side (λ k. nat_abs (half_basis_of s k n)) ≤ half

pub sums16 : BackSums side16 basis_sum half_basis_sum
unfolding sum_n half_basis_of half_z basis_of frequency_of phase_of cos_at side16 cosine16 cosines
sums16 =
    record {
      basis-sum = summed side16 (basis_of side16) (basis-period side16) 16 basis_sum tt;
      half-basis-sum = summed side16 (half_basis_of side16) (half-basis-period side16) 16 half_basis_sum tt;
    }

pub sums32 : BackSums side32 long_basis_sum long_half_basis_sum
unfolding sum_n half_basis_of half_z basis_of frequency_of phase_of cos_at side32 cosine32 cosines32
sums32 =
    record {
      basis-sum = summed side32 (basis_of side32) (basis-period side32) 32 long_basis_sum tt;
      half-basis-sum = summed side32 (half_basis_of side32) (half-basis-period side32) 32 long_half_basis_sum tt;
    }

-- of sixteen, over the even places, for half of the sum, and over the odd ones
even-half-sum : (n : ℕ) → sum_n 8 (λ k. nat_abs (half_basis_of side16 (2 * k) n)) ≤ even_half_sum
unfolding sum_n half_basis_of half_z basis_of frequency_of phase_of cos_at side16 cosine16 cosines
even-half-sum = summed side16 (λ k. half_basis_of side16 (2 * k)) (λ k. half-basis-period side16 (2 * k)) 8 even_half_sum tt

odd-sum : (n : ℕ) → sum_n 8 (λ k. nat_abs (basis_of side16 (2 * k + 1) n)) ≤ odd_basis_sum
unfolding sum_n basis_of frequency_of phase_of cos_at side16 cosine16 cosines
odd-sum = summed side16 (λ k. basis_of side16 (2 * k + 1)) (λ k. basis-period side16 (2 * k + 1)) 8 odd_basis_sum tt

-- ---- sums of places of at most b

module _ {b : ℕ} (z : ℕ → ℤ) (most : (k : ℕ) → nat_abs (z k) ≤ b) where
  pub weighed : (i : ℕ) (c : ℕ → ℤ) (m : ℕ) → sum_n i (λ k. nat_abs (c k)) ≤ m → nat_abs (sum_z i (λ k. z k *ℤ c k)) ≤ b * m
  weighed i c m h =
      le_trans (abs-sum i (λ k. z k *ℤ c k))
      (le_trans (sum_n-mono i _ (λ k. b * nat_abs (c k)) (λ k l. abs-mul-le (z k) (c k) (most k) (le_refl (nat_abs (c k)))))
      (rw (sum_n-scale i b (λ k. nat_abs (c k))) (mul-le-mul_left b h)))

  module _ {s : Side} {whole half : ℕ} (f : BackSums s whole half) (n : ℕ) where
    side-backward-most : nat_abs (backward_of s z n) ≤ b * whole
    unfolding backward_of
    side-backward-most = weighed s.side (λ k. basis_of s k n) whole (f.basis-sum n)

    side-half-sum-most : nat_abs (half_sum_of s z n) ≤ b * half
    unfolding half_sum_of
    side-half-sum-most = weighed s.side (λ k. half_basis_of s k n) half (f.half-basis-sum n)

  pub backward-most : (n : ℕ) → nat_abs (backward z n) ≤ b * basis_sum
  backward-most = side-backward-most sums16

  pub half-sum-most : (n : ℕ) → nat_abs (half_sum z n) ≤ b * half_basis_sum
  half-sum-most = side-half-sum-most sums16

  pub even-half-most : (n : ℕ) → nat_abs (even_half z n) ≤ b * even_half_sum
  unfolding even_half_of side16
  even-half-most n = weighed 8 (λ k. half_basis_of side16 (2 * k) n) even_half_sum (even-half-sum n)

  pub odd-sum-most : (n : ℕ) → nat_abs (odd_sum z n) ≤ b * odd_basis_sum
  unfolding odd_sum_of side16
  odd-sum-most n = weighed 8 (λ k. basis_of side16 (2 * k + 1) n) odd_basis_sum (odd-sum n)

  pub long-backward-most : (n : ℕ) → nat_abs (backward_of side32 z n) ≤ b * long_basis_sum
  long-backward-most = side-backward-most sums32

  pub long-half-sum-most : (n : ℕ) → nat_abs (half_sum_of side32 z n) ≤ b * long_half_basis_sum
  long-half-sum-most = side-half-sum-most sums32
