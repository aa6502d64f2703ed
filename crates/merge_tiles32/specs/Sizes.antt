-- Inside this crate: side 32 as its corrector has it, and how large P of such a tile is, whatever the differences.
use Rattle.std.specs.Prelude.{◌≡◌, ◌+◌, ◌*◌, ◌/◌, ◌^◌, ◌≤◌, ◌-ℤ◌, ◌*ℤ◌}
use Rattle.merge_tiles32.specs.Prelude.{ℕ, arith, lit≤, lit<, refl, subst, sym, ℤ, nat_abs, side32, long_noise_most}
use Rattle.std.proofs.Common.{inr, le_trans, mul-le-mul_right, le_refl}
use Rattle.algebra.specs.Order.{abs-sub, abs-mul-le}
use Rattle.algebra.specs.SumLaws.{abs-sum-bound}
use Rattle.recipe.specs.Correction.{wiener, filtered, twiddle_re, twiddle_im, inverse_re, inverse_at, correction_at}
use Rattle.recipe.specs.NoiseNumber.{noise_number}
use Rattle.recipe.specs.Sides.{side_of}
use Rattle.recipe.specs.SideLaws.{of-32}
use Rattle.noise.specs.NoiseNumberLaws.{long-noise-bound}
use Rattle.tile_spectrum.specs.RoundingLaws.{away-most}
use Rattle.tile_spectrum.specs.WienerLaws.{wiener-root}
use Rattle.merge_tiles.specs.Asked.{CorrectorLaws}
use Rattle.closeness.specs.Closeness.{twiddle}
use Rattle.closeness.specs.Side32.{fitting32}

-- a part of G at V up to long_noise_most: half the root of V. And P of such parts: 1024 of them, each times a factor whose parts add up to at most 379633849
abbrev root_most : ℕ
root_most = 132077

abbrev pub long_small_most : ℕ
long_small_most = 11954522

module _ (g h : ℕ → ℕ → ℤ) (p : (u v : ℕ) → nat_abs (g u v) ≤ root_most) (q : (u v : ℕ) → nat_abs (h u v) ≤ root_most) where
  abbrev term_most : ℕ
  term_most = 379633849 * root_most

  term-most : (y x u v : ℕ) → nat_abs (twiddle_re side32 y x u v *ℤ g u v -ℤ twiddle_im side32 y x u v *ℤ h u v) ≤ term_most
  term-most y x u v =
      let a = twiddle_re side32 y x u v in
      let b = twiddle_im side32 y x u v in
      let left : nat_abs (a *ℤ g u v) ≤ nat_abs a * root_most = abs-mul-le a (g u v) (le_refl (nat_abs a)) (p u v) in
      let right : nat_abs (b *ℤ h u v) ≤ nat_abs b * root_most = abs-mul-le b (h u v) (le_refl (nat_abs b)) (q u v) in
      omega (arith, abs-sub (a *ℤ g u v) (b *ℤ h u v), left, right, mul-le-mul_right root_most (twiddle fitting32 y x u v))

  sum-most : (y x : ℕ) → nat_abs (inverse_re side32 g h y x) ≤ 32 * (32 * term_most)
  unfolding inverse_re side32
  sum-most y x = abs-sum-bound 32 (32 * term_most) _ (λ u i. abs-sum-bound 32 term_most _ (λ v j. term-most y x u v))

  inverse-most : (y x : ℕ) → nat_abs (inverse_at side32 g h y x) ≤ (2 * (32 * (32 * term_most)) + 2 ^ 32) / (2 * 2 ^ 32)
  unfolding inverse_at side32
  inverse-most y x = away-most (inverse_re side32 g h y x) (2 ^ 32) (32 * (32 * term_most)) (lit< tt) (sum-most y x)

pub correction-small-32 : (noise : ℕ) → noise ≤ long_noise_most → (d : ℕ → ℕ → ℤ) (y x : ℕ) → nat_abs (correction_at side32 noise d y x) ≤ long_small_most
unfolding correction_at filtered
correction-small-32 noise l d y x =
    let root : (q r : ℤ) → nat_abs (wiener noise q r) ≤ root_most = λ q r. wiener-root noise root_most q r (lit< tt) (le_trans l (lit≤ tt)) in
    le_trans (inverse-most _ _ (λ u v. root _ _) (λ u v. root _ _) y x) (lit≤ tt)

-- side 32 as its corrector has it
pub side_is : side_of 32 ≡ side32
side_is = of-32 refl

pub laws_of_32 : CorrectorLaws 64 32 long_noise_most long_small_most
laws_of_32 =
    record {
      size = record { sided = record { is = inr refl }; twice = refl };
      noise = λ t ls lr r ht hs hr h. subst (λ n. noise_number n t ls lr r ≤ long_noise_most) (sym side_is) (long-noise-bound ht hs hr h);
      correction = λ noise l d y x. subst (λ n. nat_abs (correction_at n noise d y x) ≤ long_small_most) (sym side_is) (correction-small-32 noise l d y x);
      top_most = lit≤ tt;
      few = lit≤ tt;
    }
