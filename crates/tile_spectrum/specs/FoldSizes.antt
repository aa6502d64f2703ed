-- How large the numbers of the folded G are.
use Rattle.std.specs.Prelude.{◌-◌, ◌*◌, ◌≤◌}
use Rattle.tile_spectrum.specs.Prelude.{ℕ, arith, ltb, ℤ, nat_abs, side16}
use Rattle.algebra.specs.Order.{abs-add, abs-sub}
use Rattle.tile_spectrum.specs.Spectrum.{fold_re, fold_im, spread, fold_im_of, fold_re_of, spread_of}
use Rattle.tile_spectrum.specs.Apart.{cond_cases, apart-cases}

module _ (b : ℕ) where
  abbrev Twice : ℤ → Type 0
  Twice z = nat_abs z ≤ 2 * b

  module _ (g h : ℕ → ℤ) (p : (u : ℕ) → nat_abs (g u) ≤ b) (q : (u : ℕ) → nat_abs (h u) ≤ b) (i : ℕ) where
    fold-re-most : Twice (fold_re g h i)
    unfolding fold_re_of side16
    fold-re-most =
        apart-cases i (g i) _ Twice (omega (arith, p i))
        (cond_cases Twice (ltb i 9) (omega (arith, abs-add (g i) (g (16 - i)), p i, p (16 - i))) (omega (arith, abs-sub (h (i - 8)) (h (24 - i)), q (i - 8), q (24 - i))))

    fold-im-most : Twice (fold_im g h i)
    unfolding fold_im_of side16
    fold-im-most =
        apart-cases i (h i) _ Twice (omega (arith, q i))
        (cond_cases Twice (ltb i 9) (omega (arith, abs-add (h i) (h (16 - i)), q i, q (16 - i))) (omega (arith, abs-sub (g (24 - i)) (g (i - 8)), p (24 - i), p (i - 8))))

  pub spread-most : (g h : ℕ → ℕ → ℤ) → ((u v : ℕ) → nat_abs (g u v) ≤ b) → ((u v : ℕ) → nat_abs (h u v) ≤ b) → (k i : ℕ) → nat_abs (spread g h k i) ≤ 2 * b
  unfolding spread_of side16
  spread-most g h p q k i =
      cond_cases (λ (f : ℕ → ℤ). Twice (f i)) (ltb k 9)
      (fold-re-most (λ u. g u k) (λ u. h u k) (λ u. p u k) (λ u. q u k) i)
      (fold-im-most (λ u. g u (k - 8)) (λ u. h u (k - 8)) (λ u. p u (k - 8)) (λ u. q u (k - 8)) i)
