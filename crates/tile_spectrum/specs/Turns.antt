-- What the folds of a spectrum ask of a side's tables, at products of two indices: each rule one computed test over the whole table.
use Rattle.std.specs.Prelude.{◌≡◌, ◌+◌, ◌-◌, ◌*◌, ◌≤◌, ◌<◌}
use Rattle.tile_spectrum.specs.Prelude.{refl, ℕ, suc, arith, lit≤, pos, neg_ℤ, Side, cos_at, sin_at, cosines, cosine16, sine16, side16, cosines32, cosine32, sine32, side32, opposite_of, frequency_of, phase_of, basis_of}
use Rattle.std.proofs.Common.{mod-eq_of_lt}
use Rattle.recipe.specs.TableLaws.{agree, agree-both}
use Rattle.tile_spectrum.specs.Spectrum.{apart_of, real_part, imaginary_part}

pub record Turns (s : Side) : Type 0 where
  pub whole : s.side ≡ 2 * s.half
  pub above : 1 ≤ s.half
  -- C(−u·n) = C(u·n) and S(−u·n) = −S(u·n)
  pub cosine_opposite : (u n : ℕ) → u < s.side → n < s.side → cos_at s (opposite_of s u * n) ≡ cos_at s (u * n)
  pub sine_opposite : (u n : ℕ) → u < s.side → n < s.side → sin_at s (opposite_of s u * n) ≡ neg_ℤ (sin_at s (u * n))
  -- S(0·y) = S(n/2·y) = 0
  pub sine_zero : (y : ℕ) → y < s.side → sin_at s (0 * y) ≡ pos 0
  pub sine_half : (y : ℕ) → y < s.side → sin_at s (s.half * y) ≡ pos 0
  -- number u's parts of the bases at n are C(un) and −S(un)
  pub real-part : (u n : ℕ) → u < s.side → n < s.side → real_part s (λ k. basis_of s k n) u ≡ cos_at s (u * n)
  pub imaginary-part : (u n : ℕ) → u < s.side → n < s.side → imaginary_part s (λ k. basis_of s k n) u ≡ neg_ℤ (sin_at s (u * n))
  -- the places of real parts stand against C(k·y), and those of imaginary parts against −S
  pub basis_real : (k y : ℕ) → k < s.half + 1 → y < s.side → basis_of s k y ≡ cos_at s (k * y)
  pub basis_imaginary : (i y : ℕ) → i < s.half - 1 → y < s.side → basis_of s (s.half + suc i) y ≡ neg_ℤ (sin_at s (suc i * y))

pub turns16 : Turns side16
unfolding real_part imaginary_part apart_of basis_of frequency_of phase_of cos_at sin_at side16 sine16 cosine16 cosines
turns16 =
    record {
      whole = refl;
      above = lit≤ tt;
      cosine_opposite = agree-both 16 16 (λ u n. cos_at side16 (opposite_of side16 u * n)) (λ u n. cos_at side16 (u * n)) tt;
      sine_opposite = agree-both 16 16 (λ u n. sin_at side16 (opposite_of side16 u * n)) (λ u n. neg_ℤ (sin_at side16 (u * n))) tt;
      sine_zero = agree 16 (λ y. sin_at side16 (0 * y)) (λ y. pos 0) tt;
      sine_half = agree 16 (λ y. sin_at side16 (8 * y)) (λ y. pos 0) tt;
      real-part = agree-both 16 16 (λ u n. real_part side16 (λ k. basis_of side16 k n) u) (λ u n. cos_at side16 (u * n)) tt;
      imaginary-part = agree-both 16 16 (λ u n. imaginary_part side16 (λ k. basis_of side16 k n) u) (λ u n. neg_ℤ (sin_at side16 (u * n))) tt;
      basis_real = agree-both 9 16 (basis_of side16) (λ k y. cos_at side16 (k * y)) tt;
      basis_imaginary = agree-both 7 16 (λ i y. basis_of side16 (8 + suc i) y) (λ i y. neg_ℤ (sin_at side16 (suc i * y))) tt;
    }

pub turns32 : Turns side32
unfolding real_part imaginary_part apart_of basis_of frequency_of phase_of cos_at sin_at side32 sine32 cosine32 cosines32
turns32 =
    record {
      whole = refl;
      above = lit≤ tt;
      cosine_opposite = agree-both 32 32 (λ u n. cos_at side32 (opposite_of side32 u * n)) (λ u n. cos_at side32 (u * n)) tt;
      sine_opposite = agree-both 32 32 (λ u n. sin_at side32 (opposite_of side32 u * n)) (λ u n. neg_ℤ (sin_at side32 (u * n))) tt;
      sine_zero = agree 32 (λ y. sin_at side32 (0 * y)) (λ y. pos 0) tt;
      sine_half = agree 32 (λ y. sin_at side32 (16 * y)) (λ y. pos 0) tt;
      real-part = agree-both 32 32 (λ u n. real_part side32 (λ k. basis_of side32 k n) u) (λ u n. cos_at side32 (u * n)) tt;
      imaginary-part = agree-both 32 32 (λ u n. imaginary_part side32 (λ k. basis_of side32 k n) u) (λ u n. neg_ℤ (sin_at side32 (u * n))) tt;
      basis_real = agree-both 17 32 (basis_of side32) (λ k y. cos_at side32 (k * y)) tt;
      basis_imaginary = agree-both 15 32 (λ i y. basis_of side32 (16 + suc i) y) (λ i y. neg_ℤ (sin_at side32 (suc i * y))) tt;
    }

-- −u for u from 1 on
pub opposite-is : (s : Side) (u : ℕ) → 0 < u → 0 < s.side → opposite_of s u ≡ s.side - u
opposite-is s u h l = mod-eq_of_lt (omega (arith, h, l))
