-- Where the recipe's numbers are 0: sums and roundings of 0, and the corrections at no noise or of no difference.
use Rattle.tile_spectrum.specs.Prelude.{refl, ap, ap₂, ◌∙◌, ℕ, zero, suc, arith, sum_z, away, Side, cos_at, sin_at, power, wiener, row_re, row_im, bin_re, bin_im, quantized, filtered, twiddle_re, twiddle_im, inverse_re, inverse_at, correction_at}
use Rattle.std.proofs.Math.Nat.{div-eq_of_lt}
use Rattle.std.specs.Prelude.{ℤ, pos, ◌+ℤ◌, ◌-ℤ◌, ◌*ℤ◌, ◌≡◌, ◌+◌, ◌*◌, ◌<◌}
use Rattle.std.proofs.Math.IntN.{neg_ℤ, *ℤ-zero, zero-*ℤ}
use Rattle.algebra.specs.SumLaws.{sum_z-cong, sum_z-0}

pub sum_z-zero : (n : ℕ) (f : ℕ → ℤ) → ((i : ℕ) → i < n → f i ≡ pos 0) → sum_z n f ≡ pos 0
sum_z-zero n f h = sum_z-cong n f (λ i. pos 0) h ∙ sum_z-0 n

-- "to nearest, halves away from zero": 0 stays 0
pub away-zero : (m : ℕ) → 0 < m → away (pos 0) m ≡ pos 0
unfolding away
away-zero m h = ap pos (div-eq_of_lt {n = 2 * 0 + m} {m = 2 * m} (omega arith))

-- two products with 0 for a factor
pub less_zero : (a b c d : ℤ) → b ≡ pos 0 → d ≡ pos 0 → a *ℤ b -ℤ c *ℤ d ≡ pos 0
less_zero a b c d p q = rw (p, q, *ℤ-zero a, *ℤ-zero c)

pub less_none : (a b c d : ℤ) → a ≡ pos 0 → c ≡ pos 0 → a *ℤ b -ℤ c *ℤ d ≡ pos 0
less_none a b c d p q = rw (p, q, zero-*ℤ b, zero-*ℤ d)

pub more-none : (a b c d : ℤ) → a ≡ pos 0 → c ≡ pos 0 → a *ℤ b +ℤ c *ℤ d ≡ pos 0
more-none a b c d p q = rw (p, q, zero-*ℤ b, zero-*ℤ d)

-- a part of G is 0 where that part of Q is, at any noise
pub wiener-zero : (v : ℕ) (r : ℤ) → wiener v (pos 0) r ≡ pos 0
unfolding wiener
wiener-zero zero r = refl
wiener-zero (suc v) r = rw (*ℤ-zero (pos (suc v))) (away-zero (power (suc v) (pos 0) r) (omega arith))

module _ (s : Side) where
  -- P is 0 where G is
  pub inverse-zero : 0 < s.divisor → (g h : ℕ → ℕ → ℤ) → ((u v : ℕ) → g u v ≡ pos 0) → ((u v : ℕ) → h u v ≡ pos 0) → (y x : ℕ) → inverse_at s g h y x ≡ pos 0
  unfolding inverse_at inverse_re
  inverse-zero above g h p q y x =
      ap (λ z. away z s.divisor)
      (sum_z-zero s.side _
      (λ u i. sum_z-zero s.side _
      (λ v j. less_zero (twiddle_re s y x u v) (g u v) (twiddle_im s y x u v) (h u v) (p u v) (q u v))))
      ∙ away-zero s.divisor above

  -- "0 if V is 0"
  pub no-noise : 0 < s.divisor → (d : ℕ → ℕ → ℤ) (y x : ℕ) → correction_at s 0 d y x ≡ pos 0
  unfolding correction_at filtered wiener
  no-noise above d y x = inverse-zero above _ _ (λ u v. refl) (λ u v. refl) y x

  -- a tile of no differences has no bins, and no correction at any noise
  module _ (d : ℕ → ℕ → ℤ) (none : (y x : ℕ) → y < s.side → x < s.side → d y x ≡ pos 0) where
    row-re : (y v : ℕ) → y < s.side → row_re s d y v ≡ pos 0
    unfolding row_re
    row-re y v h = sum_z-zero s.side _ (λ x k. ap (λ z. z *ℤ cos_at s (v * x)) (none y x h k) ∙ zero-*ℤ (cos_at s (v * x)))

    row-im : (y v : ℕ) → y < s.side → row_im s d y v ≡ pos 0
    unfolding row_im
    row-im y v h = sum_z-zero s.side _ (λ x k. ap (λ z. z *ℤ neg_ℤ (sin_at s (v * x))) (none y x h k) ∙ zero-*ℤ (neg_ℤ (sin_at s (v * x))))

    bin-re : (u v : ℕ) → bin_re s d u v ≡ pos 0
    unfolding bin_re
    bin-re u v = sum_z-zero s.side _ (λ y h. less_none (row_re s d y v) (cos_at s (u * y)) (row_im s d y v) (neg_ℤ (sin_at s (u * y))) (row-re y v h) (row-im y v h))

    bin-im : (u v : ℕ) → bin_im s d u v ≡ pos 0
    unfolding bin_im
    bin-im u v = sum_z-zero s.side _ (λ y h. more-none (row_re s d y v) (neg_ℤ (sin_at s (u * y))) (row_im s d y v) (cos_at s (u * y)) (row-re y v h) (row-im y v h))

    filtered-zero : 0 < s.quantum → (noise : ℕ) (b c : ℤ) → b ≡ pos 0 → c ≡ pos 0 → filtered s noise b c ≡ pos 0
    unfolding filtered quantized
    filtered-zero above noise b c p q =
        ap₂ (wiener noise) (ap (λ z. away z s.quantum) p ∙ away-zero s.quantum above) (ap (λ z. away z s.quantum) q ∙ away-zero s.quantum above)
        ∙ wiener-zero noise (pos 0)

    pub no_difference : 0 < s.quantum → 0 < s.divisor → (noise y x : ℕ) → correction_at s noise d y x ≡ pos 0
    unfolding correction_at
    no_difference quantum divisor noise y x =
        inverse-zero divisor _ _
        (λ u v. filtered-zero quantum noise (bin_re s d u v) (bin_im s d u v) (bin-re u v) (bin-im u v))
        (λ u v. filtered-zero quantum noise (bin_im s d u v) (bin_re s d u v) (bin-im u v) (bin-re u v)) y x
