-- P of the greatest and of the least sums depends on the tile's differences alone, and is no larger than P at one noise number can be.
use Rattle.std.specs.Prelude.{◌≡◌, ◌+◌, ◌*◌, ◌%◌, ◌^◌, ◌≤◌, ◌<◌, ◌-ℤ◌, ◌*ℤ◌}
use Rattle.range_pair.specs.Prelude.{ap, ap₂, ℕ, arith, lit<, lit≤, ℤ, nat_abs, sum_z, min_z, max_z, away, Side, cos_at, sin_at, side16, quantized, bin_re, bin_im, filtered, twiddle_re, twiddle_im, end_re, least_at, greatest_at, noise_most, root_most, small_most}
use Rattle.std.proofs.Common.{le_refl, mul-le-mul_right}
use Rattle.std.proofs.Math.Nat.{le_trans, mod-lt}
use Rattle.algebra.specs.Order.{abs-sub, abs-mul-le}
use Rattle.algebra.specs.SumLaws.{abs-sum-bound}
use Rattle.algebra.specs.ClampLaws.{min_cases, max_cases}
use Rattle.tile_spectrum.specs.DifferenceLaws.{bin-re, bin-im}
use Rattle.tile_spectrum.specs.RoundingLaws.{away-most}
use Rattle.tile_spectrum.specs.WienerLaws.{wiener-root}
use Rattle.range_pair.specs.Factors.{factor_re, factor_im, factor_most}
use Rattle.range_pair.specs.FactorLaws.{factor-most}

-- ---- equal differences

module _ (s : Side) (added taken : ℤ → ℤ → ℤ) (lower upper : ℕ) (d e : ℕ → ℕ → ℤ) (same : (y x : ℕ) → y < s.side → x < s.side → d y x ≡ e y x) (y x : ℕ) where
  end-cong : end_re s added taken lower upper d y x ≡ end_re s added taken lower upper e y x
  unfolding end_re
  end-cong =
      ap₂ (λ re im. sum_z s.side (λ u. sum_z s.side (λ v.
      added (twiddle_re s y x u v *ℤ filtered s lower (re u v) (im u v)) (twiddle_re s y x u v *ℤ filtered s upper (re u v) (im u v))
      -ℤ taken (twiddle_im s y x u v *ℤ filtered s lower (im u v) (re u v)) (twiddle_im s y x u v *ℤ filtered s upper (im u v) (re u v))))) (bin-re s d e same) (bin-im s d e same)

module _ (lower upper : ℕ) (d e : ℕ → ℕ → ℤ) (same : (y x : ℕ) → y < 16 → x < 16 → d y x ≡ e y x) (y x : ℕ) where
  pub greatest-cong : greatest_at side16 lower upper d y x ≡ greatest_at side16 lower upper e y x
  unfolding greatest_at side16
  greatest-cong = ap (λ z. away z (2 ^ 32)) (end-cong side16 max_z min_z lower upper d e same y x)

  pub least-cong : least_at side16 lower upper d y x ≡ least_at side16 lower upper e y x
  unfolding least_at side16
  least-cong = ap (λ z. away z (2 ^ 32)) (end-cong side16 min_z max_z lower upper d e same y x)

-- ---- sizes

-- a number that is picked of two
pub record Kept (pick : ℤ → ℤ → ℤ) : Type 0 where
  pub most : (b : ℕ) (m n : ℤ) → nat_abs m ≤ b → nat_abs n ≤ b → nat_abs (pick m n) ≤ b

min-kept : Kept min_z
min-kept = record { most = λ b m n h k. min_cases m n (λ z. nat_abs z ≤ b) (λ _. k) (λ _. h) }

max-kept : Kept max_z
max-kept = record { most = λ b m n h k. max_cases m n (λ z. nat_abs z ≤ b) (λ _. k) (λ _. h) }

part-most : (noise : ℕ) → noise ≤ noise_most → (b c : ℤ) → nat_abs (filtered side16 noise b c) ≤ root_most
unfolding filtered
part-most noise h b c = wiener-root noise root_most (quantized side16 b) (quantized side16 c) (lit< tt) (le_trans h (lit≤ tt))

module _ (lower upper : ℕ) (h : lower ≤ noise_most) (k : upper ≤ noise_most) (d : ℕ → ℕ → ℤ) (y x : ℕ) where
  end-most : (added taken : ℤ → ℤ → ℤ) → Kept added → Kept taken → nat_abs (end_re side16 added taken lower upper d y x) ≤ 16 * (16 * (factor_most * root_most))
  unfolding end_re twiddle_re twiddle_im cos_at sin_at side16
  end-most added taken p q = abs-sum-bound 16 (16 * (factor_most * root_most)) _ (λ u i. abs-sum-bound 16 (factor_most * root_most) _ (λ v j. bin u v))
    where
      below : (n : ℕ) → n % 16 < 16
      below n = mod-lt n (lit< tt)

      bin : (u v : ℕ) →
          nat_abs (added (twiddle_re side16 y x u v *ℤ filtered side16 lower (bin_re side16 d u v) (bin_im side16 d u v)) (twiddle_re side16 y x u v *ℤ filtered side16 upper (bin_re side16 d u v) (bin_im side16 d u v))
          -ℤ taken (twiddle_im side16 y x u v *ℤ filtered side16 lower (bin_im side16 d u v) (bin_re side16 d u v)) (twiddle_im side16 y x u v *ℤ filtered side16 upper (bin_im side16 d u v) (bin_re side16 d u v))) ≤ factor_most * root_most
      bin u v =
          let f = factor_re ((u * y) % 16) ((v * x) % 16) in
          let g = factor_im ((u * y) % 16) ((v * x) % 16) in
          let re = bin_re side16 d u v in
          let im = bin_im side16 d u v in
          let t = twiddle_re side16 y x u v in
          let w = twiddle_im side16 y x u v in
          let a = p.most (f * root_most) (t *ℤ filtered side16 lower re im) (t *ℤ filtered side16 upper re im) (abs-mul-le t _ (le_refl f) (part-most lower h re im)) (abs-mul-le t _ (le_refl f) (part-most upper k re im)) in
          let b = q.most (g * root_most) (w *ℤ filtered side16 lower im re) (w *ℤ filtered side16 upper im re) (abs-mul-le w _ (le_refl g) (part-most lower h im re)) (abs-mul-le w _ (le_refl g) (part-most upper k im re)) in
          le_trans (abs-sub (added (t *ℤ filtered side16 lower re im) (t *ℤ filtered side16 upper re im)) (taken (w *ℤ filtered side16 lower im re) (w *ℤ filtered side16 upper im re)))
          (total (f * root_most) (g * root_most) _ _ a b (spread f g (factor-most ((u * y) % 16) ((v * x) % 16) (below (u * y)) (below (v * x)))))
        where
          total : (m n a b : ℕ) → a ≤ m → b ≤ n → m + n ≤ factor_most * root_most → a + b ≤ factor_most * root_most
          total m n a b i j l = omega arith

          spread : (f g : ℕ) → f + g ≤ factor_most → f * root_most + g * root_most ≤ factor_most * root_most
          spread f g l = omega (arith, mul-le-mul_right root_most l)

  pub greatest-most : nat_abs (greatest_at side16 lower upper d y x) ≤ small_most
  unfolding greatest_at side16
  greatest-most = le_trans (away-most _ (2 ^ 32) (16 * (16 * (factor_most * root_most))) (lit< tt) (end-most max_z min_z max-kept min-kept)) (lit≤ tt)

  pub least-most : nat_abs (least_at side16 lower upper d y x) ≤ small_most
  unfolding least_at side16
  least-most = le_trans (away-most _ (2 ^ 32) (16 * (16 * (factor_most * root_most))) (lit< tt) (end-most min_z max_z min-kept max-kept)) (lit≤ tt)
