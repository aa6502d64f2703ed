-- The bins of a tile look at its sixteen by sixteen places only; and columns 0 and 8 have no line of imaginary parts beside them.
use Rattle.std.specs.Prelude.{◌≡◌, ◌+◌, ◌-◌, ◌%◌, ◌<◌, ◌+ℤ◌, ◌-ℤ◌}
use Rattle.tile_spatial.specs.Prelude.{refl, ap, ap₂, ◌∙◌, Bool, true, false, cond, ℕ, arith, eqb, ltb, ℤ, pos, neg_ℤ, side16, real_of, imaginary_of, beside, tile_re, tile_im, apart_of, beside_of, imaginary_part, real_part, tile_im_of, tile_re_of}
use borrow.Author.Tests.{eqb-false}
use Rattle.tile_spectrum.specs.Apart.{cond_cases, apart-cases, below-ext, side-ext, is-own, is-paired}

-- ---- the line beside

real-none : (u : ℕ) → real_of (λ b. pos 0) u ≡ pos 0
unfolding real_part side16
real-none u = cond_cases (λ z. z ≡ pos 0) (ltb u 9) refl refl

imaginary-none : (u : ℕ) → imaginary_of (λ b. pos 0) u ≡ pos 0
unfolding imaginary_part side16
imaginary-none u = apart-cases u (pos 0) _ (λ z. z ≡ pos 0) refl (cond_cases (λ z. z ≡ pos 0) (ltb u 9) refl refl)

module _ (t : ℕ → ℕ → ℤ) (u v : ℕ) where
  pub own-real : v % 8 ≡ 0 → real_of (beside t v) u ≡ pos 0
  unfolding beside_of side16
  own-real h = ap (λ z. real_of z u) (is-own v (λ b. pos 0) (t (8 + v)) h) ∙ real-none u

  pub own-imaginary : v % 8 ≡ 0 → imaginary_of (beside t v) u ≡ pos 0
  unfolding beside_of side16
  own-imaginary h = ap (λ z. imaginary_of z u) (is-own v (λ b. pos 0) (t (8 + v)) h) ∙ imaginary-none u

  pub paired-real : (v % 8 ≡ 0 → ⊥) → real_of (beside t v) u ≡ real_of (t (8 + v)) u
  unfolding beside_of side16
  paired-real h = ap (λ z. real_of z u) (is-paired v (λ b. pos 0) (t (8 + v)) h)

  pub paired-imaginary : (v % 8 ≡ 0 → ⊥) → imaginary_of (beside t v) u ≡ imaginary_of (t (8 + v)) u
  unfolding beside_of side16
  paired-imaginary h = ap (λ z. imaginary_of z u) (is-paired v (λ b. pos 0) (t (8 + v)) h)

-- ---- the places that a bin looks at

module _ (u : ℕ) (h : u < 16) (z z' : ℕ → ℤ) (e : (b : ℕ) → b < 16 → z b ≡ z' b) where
  real-ext : real_of z u ≡ real_of z' u
  unfolding real_part side16
  real-ext = below-ext u 9 (z u) (z (16 - u)) (z' u) (z' (16 - u)) (λ k. e u h) (λ k. e (16 - u) (omega arith))

  imaginary-ext : imaginary_of z u ≡ imaginary_of z' u
  unfolding imaginary_part side16
  imaginary-ext =
      side-ext side16 u (pos 0) _ (pos 0) _ refl
      (λ o. below-ext u 9 (z (8 + u)) (neg_ℤ (z (24 - u))) (z' (8 + u)) (neg_ℤ (z' (24 - u))) (λ k. e (8 + u) (omega (arith, o))) (λ k. ap neg_ℤ (e (24 - u) (omega arith))))

module _ (t t' : ℕ → ℕ → ℤ) (e : (k b : ℕ) → k < 16 → b < 16 → t k b ≡ t' k b) (u v : ℕ) (h : u < 16) (l : v < 9) where
  -- whatever looks at sixteen places of the line beside
  beside-ext : (part : (ℕ → ℤ) → ℤ) → ((z z' : ℕ → ℤ) → ((b : ℕ) → b < 16 → z b ≡ z' b) → part z ≡ part z') → part (beside t v) ≡ part (beside t' v)
  unfolding beside_of apart_of side16
  beside-ext part ext = go (eqb (v % 8) 0) (eqb-false (v % 8) 0)
    where
      go : (c : Bool) → (c ≡ false → v % 8 ≡ 0 → ⊥) → part (cond c (λ b. pos 0) (t (8 + v))) ≡ part (cond c (λ b. pos 0) (t' (8 + v)))
      go true o = refl
      go false o = ext (t (8 + v)) (t' (8 + v)) (λ b k. e (8 + v) b (omega (arith, o refl)) k)

  pub tile-re-ext : tile_re t u v ≡ tile_re t' u v
  unfolding tile_re_of side16
  tile-re-ext = ap₂ ◌-ℤ◌ (real-ext u h (t v) (t' v) (λ b k. e v b (omega arith) k)) (beside-ext (λ z. imaginary_of z u) (imaginary-ext u h))

  pub tile-im-ext : tile_im t u v ≡ tile_im t' u v
  unfolding tile_im_of side16
  tile-im-ext = ap₂ ◌+ℤ◌ (imaginary-ext u h (t v) (t' v) (λ b k. e v b (omega arith) k)) (beside-ext (λ z. real_of z u) (real-ext u h))
