-- The way back from a spectrum in halfcomplex form looks at its n by n places only.
use Rattle.std.specs.Prelude.{◌≡◌, ◌+◌, ◌-◌, ◌%◌, ◌≤◌, ◌<◌, ◌+ℤ◌, ◌-ℤ◌}
use Rattle.tile_spectrum.specs.Prelude.{refl, ap, ap₂, Bool, true, false, cond, ℕ, zero, suc, arith, ltb, ℤ, Side}
use Rattle.std.proofs.Math.Nat.{zero-mod}
use Rattle.std.proofs.Common.{ltb-true, ltb-false}
use Rattle.tile_spectrum.specs.Spectrum.{fold_re_of, fold_im_of, spread_of, counted_of, back_sum_of}
use Rattle.tile_spectrum.specs.Turns.{Turns}
use Rattle.tile_spectrum.specs.Apart.{below-ext, side-ext}
use Rattle.tile_spectrum.specs.LineLaws.{back-line-ext}

module _ {s : Side} (t : Turns s) where
  -- a place that is paired is not 0
  not-zero : (b : ℕ) → (b % s.half ≡ 0 → ⊥) → 0 < b
  not-zero zero o = absurd (o (zero-mod s.half))
  not-zero (suc b) o = omega arith

  -- folded lines and columns
  module _ (g h g' h' : ℕ → ℤ) (p : (u : ℕ) → u < s.side → g u ≡ g' u) (q : (u : ℕ) → u < s.side → h u ≡ h' u) (b : ℕ) (l : b < s.side) where
    abbrev far : ℕ
    far = s.side + s.half - b

    low : (b % s.half ≡ 0 → ⊥) → s.side - b < s.side
    low o = omega (arith, l, not-zero b o)

    near : b - s.half < s.side
    near = omega (arith, l)

    high : s.half + 1 ≤ b → far < s.side
    high k = omega (arith, l, k)

    fold-re : fold_re_of s g h b ≡ fold_re_of s g' h' b
    unfolding fold_re_of
    fold-re =
        side-ext s b (g b) _ (g' b) _ (p b l)
        (λ o. below-ext b (s.half + 1) (g b +ℤ g (s.side - b)) (h (b - s.half) -ℤ h far) (g' b +ℤ g' (s.side - b)) (h' (b - s.half) -ℤ h' far) (λ k. ap₂ ◌+ℤ◌ (p b l) (p (s.side - b) (low o))) (λ k. ap₂ ◌-ℤ◌ (q (b - s.half) near) (q far (high k))))

    fold-im : fold_im_of s g h b ≡ fold_im_of s g' h' b
    unfolding fold_im_of
    fold-im =
        side-ext s b (h b) _ (h' b) _ (q b l)
        (λ o. below-ext b (s.half + 1) (h b +ℤ h (s.side - b)) (g far -ℤ g (b - s.half)) (h' b +ℤ h' (s.side - b)) (g' far -ℤ g' (b - s.half)) (λ k. ap₂ ◌+ℤ◌ (q b l) (q (s.side - b) (low o))) (λ k. ap₂ ◌-ℤ◌ (p far (high k)) (p (b - s.half) near)))

  pub spread-ext : (g h g' h' : ℕ → ℕ → ℤ) → ((u v : ℕ) → u < s.side → v < s.half + 1 → g u v ≡ g' u v) → ((u v : ℕ) → u < s.side → v < s.half + 1 → h u v ≡ h' u v) → (k b : ℕ) → k < s.side → b < s.side → spread_of s g h k b ≡ spread_of s g' h' k b
  unfolding spread_of
  spread-ext g h g' h' p q k b m l = go (ltb k (s.half + 1)) (ltb-true k (s.half + 1)) (ltb-false k (s.half + 1))
    where
      beyond : s.half + 1 ≤ k → k - s.half < s.half + 1
      beyond r = omega (arith, m, r, t.whole)

      go : (c : Bool) → (c ≡ true → k < s.half + 1) → (c ≡ false → s.half + 1 ≤ k) → cond c (fold_re_of s (λ u. g u k) (λ u. h u k)) (fold_im_of s (λ u. g u (k - s.half)) (λ u. h u (k - s.half))) b ≡ cond c (fold_re_of s (λ u. g' u k) (λ u. h' u k)) (fold_im_of s (λ u. g' u (k - s.half)) (λ u. h' u (k - s.half))) b
      go true r z = fold-re _ _ _ _ (λ u n. p u k n (r refl)) (λ u n. q u k n (r refl)) b l
      go false r z = fold-im _ _ _ _ (λ u n. p u (k - s.half) n (beyond (z refl))) (λ u n. q u (k - s.half) n (beyond (z refl))) b l

-- the sum back
pub back-ext : (s : Side) (z z' : ℕ → ℕ → ℤ) → ((k b : ℕ) → k < s.side → b < s.side → z k b ≡ z' k b) → (y x : ℕ) → back_sum_of s z y x ≡ back_sum_of s z' y x
unfolding back_sum_of
back-ext s z z' e y x =
    back-line-ext s _ _ (λ k l. ap (counted_of s k) (back-line-ext s (z k) (z' k) (λ b m. e k b l m) y)) x
