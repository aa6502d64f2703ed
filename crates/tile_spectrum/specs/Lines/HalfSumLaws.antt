-- Half of the sum back: twice it is the sum in which all places but 0 and n/2 count twice; and the bounds of the basis.
use Rattle.std.specs.Prelude.{◌≡◌, ◌∷◌, ◌+◌, ◌-◌, ◌*◌, ◌/◌, ◌%◌, ◌≤◌, ◌<◌, ◌*ℤ◌}
use Rattle.tile_spectrum.specs.Lines.Prelude.{refl, sym, ap, subst, ◌∙◌, Bool, true, false, cond, [], ℕ, zero, suc, arith, eqb, lit≤, ℤ, pos, negsuc, nat_abs, neg_ℤ, var, #◌, ◌⊠◌, ⊖◌, ring, Side, cos_at, cosines, cosine16, side16, Rules}
use Rattle.std.proofs.Common.{le_trans, zero-mul, suc-mul, mul-zero, mul-suc, eqb-true, lt-ltb}
use Rattle.std.proofs.Math.Nat.{mul_assoc, mul_comm, div-add-mod}
use Rattle.std.proofs.Math.IntN.{neg_ℤ-neg_ℤ}
use Rattle.algebra.specs.Order.{abs_neg}
use Rattle.algebra.specs.SumLaws.{sum_z-cong, sum_z-scale}
use Rattle.recipe.specs.TableLaws.{rules16}
use Rattle.tile_spectrum.specs.Lines.Halfcomplex.{half_z, frequency_of, phase_of, basis_of, backward_of, half_basis_of, half_sum_of, backward, half_sum}

-- ---- twice the half

abbrev Even : ℤ → Type 0
Even z = pos 2 *ℤ half_z z ≡ z

half-negative : (z : ℤ) → half_z (neg_ℤ z) ≡ neg_ℤ (half_z z)
unfolding half_z
half-negative (pos zero) = refl
half-negative (pos (suc a)) = refl
half-negative (negsuc a) = sym (neg_ℤ-neg_ℤ (pos (suc a / 2)))

even-negative : (z : ℤ) → Even z → Even (neg_ℤ z)
even-negative z e = ap (λ h. pos 2 *ℤ h) (half-negative z) ∙ ring (half_z z ∷ []) (# 2 ⊠ ⊖ var 0) (⊖ (# 2 ⊠ var 0)) tt ∙ ap neg_ℤ e

-- a whole number of halves below two of them is at most one
one-half : (h m k : ℕ) → k ≡ h * m → k < 2 * h → k < h + 1
one-half h zero k e l = omega (arith, e, mul-zero h)
one-half h (suc zero) k e l = omega (arith, e, mul-suc h 0, mul-zero h)
one-half h (suc (suc m)) k e l = absurd (omega (arith, e, l, mul-suc h (suc m), mul-suc h m))

moved : (b : Bool) (z w : ℤ) → cond b z (pos 2 *ℤ z) *ℤ w ≡ z *ℤ cond b w (pos 2 *ℤ w)
moved true z w = refl
moved false z w = ring (z ∷ w ∷ []) (# 2 ⊠ var 0 ⊠ var 1) (var 0 ⊠ (# 2 ⊠ var 1)) tt

-- of a side whose C(0) is even
module _ {s : Side} (r : Rules s) (even : Even (cos_at s 0)) where
  turns-even : (m : ℕ) → Even (cos_at s (m * s.half))
  turns-even zero = subst Even (ap (cos_at s) (sym (zero-mul s.half))) even
  turns-even (suc m) =
      subst Even (sym (ap (cos_at s) (suc-mul m s.half) ∙ r.half_turn (m * s.half))) (even-negative (cos_at s (m * s.half)) (turns-even m))

  -- places 0 and n/2 stand against C(0) or −C(0)
  own-even : (k n : ℕ) → k < s.side → k % s.half ≡ 0 → Even (basis_of s k n)
  unfolding basis_of frequency_of phase_of
  own-even k n l e =
      let m = k / s.half in
      let whole : k ≡ s.half * m = omega (arith, div-add-mod k s.half, e) in
      let low : k < s.half + 1 = one-half s.half m k whole (omega (arith, l, r.whole)) in
      let product : k * n ≡ m * n * s.half = ap (λ k. k * n) whole ∙ mul_assoc s.half m n ∙ mul_comm s.half (m * n) in
      subst Even
      (sym (ap (λ b. cos_at s (cond b k (k - s.half) * n + cond b 0 (s.side / 4))) (lt-ltb k (s.half + 1) low) ∙ ap (cos_at s) (omega (arith, product))))
      (turns-even (m * n))

  twice : (k n : ℕ) → k < s.side → cond (eqb (k % s.half) 0) (basis_of s k n) (pos 2 *ℤ basis_of s k n) ≡ pos 2 *ℤ half_basis_of s k n
  unfolding half_basis_of
  twice k n l = go (eqb (k % s.half) 0) (eqb-true (k % s.half) 0)
    where
      go : (b : Bool) → (b ≡ true → k % s.half ≡ 0) → cond b (basis_of s k n) (pos 2 *ℤ basis_of s k n) ≡ pos 2 *ℤ cond b (half_z (basis_of s k n)) (basis_of s k n)
      go true e = sym (own-even k n l (e refl))
      go false e = refl

  pub twice_half : (z : ℕ → ℤ) (n : ℕ) → pos 2 *ℤ half_sum_of s z n ≡ backward_of s (λ k. cond (eqb (k % s.half) 0) (z k) (pos 2 *ℤ z k)) n
  unfolding half_sum_of backward_of
  twice_half z n =
      sym (sum_z-scale s.side (pos 2) (λ k. z k *ℤ half_basis_of s k n))
      ∙ sum_z-cong s.side _ (λ k. cond (eqb (k % s.half) 0) (z k) (pos 2 *ℤ z k) *ℤ basis_of s k n)
      (λ k l. ring (z k ∷ half_basis_of s k n ∷ []) (# 2 ⊠ (var 0 ⊠ var 1)) (var 0 ⊠ (# 2 ⊠ var 1)) tt ∙ ap (λ w. z k *ℤ w) (sym (twice k n l)) ∙ sym (moved (eqb (k % s.half) 0) (z k) (basis_of s k n)))

pub half-sum : (z : ℕ → ℤ) (n : ℕ) → pos 2 *ℤ half_sum z n ≡ backward (λ k. cond (eqb (k % 8) 0) (z k) (pos 2 *ℤ z k)) n
unfolding half_z cos_at side16 cosine16 cosines
half-sum = twice_half rules16 refl

-- ---- bounds

half-within : (z : ℤ) (b : ℕ) → nat_abs z ≤ 2 * b → nat_abs (half_z z) ≤ b
unfolding half_z
half-within (pos a) b h = omega (arith, h)
half-within (negsuc a) b h = omega (arith, h, abs_neg (pos (suc a / 2)))

module _ {s : Side} (r : Rules s) (k n : ℕ) where
  pub basis-most : nat_abs (basis_of s k n) ≤ 16384
  unfolding basis_of
  basis-most = r.most (frequency_of s k * n + phase_of s k)

  pub half-basis-within : nat_abs (half_basis_of s k n) ≤ cond (eqb (k % s.half) 0) 8192 16384
  unfolding half_basis_of
  half-basis-within = go (eqb (k % s.half) 0)
    where
      go : (b : Bool) → nat_abs (cond b (half_z (basis_of s k n)) (basis_of s k n)) ≤ cond b 8192 16384
      go true = half-within (basis_of s k n) 8192 basis-most
      go false = basis-most

  pub half-basis-most : nat_abs (half_basis_of s k n) ≤ 16384
  half-basis-most = le_trans half-basis-within (go (eqb (k % s.half) 0))
    where
      go : (b : Bool) → cond b 8192 16384 ≤ 16384
      go true = lit≤ tt
      go false = lit≤ tt
