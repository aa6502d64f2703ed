-- The inverse sums of complex lines are the sums back from their halfcomplex folds, for any side whose tables turn as `Turns` asks.
use Rattle.tile_spectrum.specs.Prelude.{refl, sym, ap, ap₂, ◌∙◌, [], ℕ, zero, suc, arith, var, #◌, ◌⊞◌, ◌⊟◌, ◌⊠◌, ⊖◌, ring, sum_z, Side, cos_at, sin_at, twiddle_re, twiddle_im, inverse_re, opposite_of, basis_of, backward_of}
use Rattle.std.proofs.Common.{mod-eq_of_lt, lt-ltb, le-ltb}
use Rattle.std.proofs.Math.Nat.{mod_self, zero-mod, add-mod_left}
use Rattle.std.specs.Prelude.{ℤ, pos, ◌-ℤ◌, ◌*ℤ◌, ◌≡◌, ◌∷◌, ◌+◌, ◌-◌, ◌*◌, ◌%◌, ◌<◌}
use Rattle.std.proofs.Math.IntN.{neg_ℤ, ◌+ℤ◌, +ℤ_comm}
use Rattle.algebra.specs.SumLaws.{sum_z-neg, sum_z-cong, sum_z-add, sum_z-parts, sum_z-exchange}
use Rattle.recipe.specs.CorrectionLaws.{along_re, along_im, two-way}
use Rattle.tile_spectrum.specs.Spectrum.{fold_re_of, fold_im_of, spread_of, counted_of, back_sum_of, MirroredOf}
use Rattle.tile_spectrum.specs.Turns.{Turns, opposite-is}
use Rattle.tile_spectrum.specs.Apart.{side-own, side-paired}

-- ---- sums, rearranged

sum_first : (n : ℕ) (f : ℕ → ℤ) → sum_z (suc n) f ≡ f 0 +ℤ sum_z n (λ i. f (suc i))
unfolding sum_z
sum_first zero f = ring (f 0 ∷ []) (# 0 ⊞ var 0) (var 0 ⊞ # 0) tt
sum_first (suc n) f =
    ap (λ z. z +ℤ f (suc n)) (sum_first n f)
    ∙ ring (f 0 ∷ sum_z n (λ i. f (suc i)) ∷ f (suc n) ∷ []) (var 0 ⊞ var 1 ⊞ var 2) (var 0 ⊞ (var 1 ⊞ var 2)) tt

sum-turned : (n : ℕ) (f : ℕ → ℤ) → sum_z n (λ i. f (n - suc i)) ≡ sum_z n f
unfolding sum_z
sum-turned zero f = refl
sum-turned (suc n) f =
    let last : suc n - 1 ≡ n = omega arith in
    sum_first n (λ i. f (suc n - suc i))
    ∙ ap₂ (λ j z. f j +ℤ z) last (sum_z-cong n _ (λ i. f (n - suc i)) (λ i l. ap f (omega arith)) ∙ sum-turned n f)
    ∙ +ℤ_comm (f n) (sum_z n f)

-- a line of twice h numbers by its halves, and the first numbers of both by themselves
halved : (h m : ℕ) (f : ℕ → ℤ) → h ≡ suc m → sum_z (2 * h) f ≡ f 0 +ℤ f h +ℤ (sum_z m (λ i. f (suc i)) +ℤ sum_z m (λ i. f (h + suc i)))
halved h m f e =
    let two : 2 * h ≡ suc m + suc m = omega (arith, e) in
    let half : 0 + suc m ≡ h = omega (arith, e) in
    ap (λ n. sum_z n f) two ∙ sum_z-parts (suc m) (suc m) f
    ∙ ap₂ ◌+ℤ◌ (sum_first m f) (sum_first m (λ i. f (i + suc m)) ∙ ap₂ (λ j z. f j +ℤ z) half (sum_z-cong m _ (λ i. f (h + suc i)) (λ i l. ap f (omega (arith, e)))))
    ∙ ring (f 0 ∷ f h ∷ sum_z m (λ i. f (suc i)) ∷ sum_z m (λ i. f (h + suc i)) ∷ []) (var 0 ⊞ var 2 ⊞ (var 1 ⊞ var 3)) (var 0 ⊞ var 1 ⊞ (var 2 ⊞ var 3)) tt

-- ---- one way

-- the terms of numbers 0 and 8, where the sine is 0
own-real : (a c : ℤ) {x s b : ℤ} → s ≡ pos 0 → b ≡ x → a *ℤ x -ℤ c *ℤ s ≡ a *ℤ b
own-real a c {x} {s} {b} p q = ap₂ (λ s x. a *ℤ x -ℤ c *ℤ s) p (sym q) ∙ ring (a ∷ b ∷ c ∷ []) (var 0 ⊠ var 1 ⊟ var 2 ⊠ # 0) (var 0 ⊠ var 1) tt

own-imaginary : (a c : ℤ) {x s b : ℤ} → s ≡ pos 0 → b ≡ x → a *ℤ s +ℤ c *ℤ x ≡ c *ℤ b
own-imaginary a c {x} {s} {b} p q = ap₂ (λ s x. a *ℤ s +ℤ c *ℤ x) p (sym q) ∙ ring (a ∷ b ∷ c ∷ []) (var 0 ⊠ # 0 ⊞ var 2 ⊠ var 1) (var 2 ⊠ var 1) tt

-- the terms of a number a + i·c and its conjugate's a' + i·c', at the cosine x and the sine s
module _ (a c a' c' s : ℤ) {x x' s' b b' : ℤ} (p : x' ≡ x) (q : s' ≡ neg_ℤ s) (r : b ≡ x) (t : b' ≡ neg_ℤ s) where
  pair-real : (a *ℤ x -ℤ c *ℤ s) +ℤ (a' *ℤ x' -ℤ c' *ℤ s') ≡ (a +ℤ a') *ℤ b +ℤ (c -ℤ c') *ℤ b'
  pair-real =
      ap₂ (λ x' s'. (a *ℤ x -ℤ c *ℤ s) +ℤ (a' *ℤ x' -ℤ c' *ℤ s')) p q
      ∙ ring (a ∷ c ∷ a' ∷ c' ∷ x ∷ s ∷ []) ((var 0 ⊠ var 4 ⊟ var 1 ⊠ var 5) ⊞ (var 2 ⊠ var 4 ⊟ var 3 ⊠ ⊖ var 5)) ((var 0 ⊞ var 2) ⊠ var 4 ⊞ (var 1 ⊟ var 3) ⊠ ⊖ var 5) tt
      ∙ sym (ap₂ (λ b b'. (a +ℤ a') *ℤ b +ℤ (c -ℤ c') *ℤ b') r t)

  pair-imaginary : (a *ℤ s +ℤ c *ℤ x) +ℤ (a' *ℤ s' +ℤ c' *ℤ x') ≡ (c +ℤ c') *ℤ b +ℤ (a' -ℤ a) *ℤ b'
  pair-imaginary =
      ap₂ (λ x' s'. (a *ℤ s +ℤ c *ℤ x) +ℤ (a' *ℤ s' +ℤ c' *ℤ x')) p q
      ∙ ring (a ∷ c ∷ a' ∷ c' ∷ x ∷ s ∷ []) ((var 0 ⊠ var 5 ⊞ var 1 ⊠ var 4) ⊞ (var 2 ⊠ ⊖ var 5 ⊞ var 3 ⊠ var 4)) ((var 1 ⊞ var 3) ⊠ var 4 ⊞ (var 2 ⊟ var 0) ⊠ ⊖ var 5) tt
      ∙ sym (ap₂ (λ b b'. (c +ℤ c') *ℤ b +ℤ (a' -ℤ a) *ℤ b') r t)

module _ {s : Side} (t : Turns s) where
  -- the numbers from 1 to n/2 − 1
  abbrev some : ℕ
  some = s.half - 1

  some_is : s.half ≡ suc some
  some_is = omega (arith, t.above)

  side_above : 0 < s.side
  side_above = omega (arith, t.whole, t.above)

  conjugate : (i : ℕ) → opposite_of s (suc i) ≡ s.side - suc i
  conjugate i = opposite-is s (suc i) (omega arith) side_above

  -- each place of a real part beside that of its imaginary part
  placed : (f : ℕ → ℤ) → sum_z s.side f ≡ f 0 +ℤ f s.half +ℤ sum_z some (λ i. f (suc i) +ℤ f (s.half + suc i))
  placed f =
      ap (λ n. sum_z n f) t.whole ∙ halved s.half some f some_is
      ∙ ap (λ z. f 0 +ℤ f s.half +ℤ z) (sym (sum_z-add some (λ i. f (suc i)) (λ i. f (s.half + suc i))))

  -- each number beside its conjugate
  paired : (f : ℕ → ℤ) → sum_z s.side f ≡ f 0 +ℤ f s.half +ℤ sum_z some (λ i. f (suc i) +ℤ f (opposite_of s (suc i)))
  paired f =
      ap (λ n. sum_z n f) t.whole ∙ halved s.half some f some_is
      ∙ ap (λ z. f 0 +ℤ f s.half +ℤ z)
      (ap (λ z. sum_z some (λ i. f (suc i)) +ℤ z) (sym (sum-turned some (λ i. f (s.half + suc i))) ∙ sum_z-cong some _ (λ i. f (opposite_of s (suc i))) (λ i l. ap f (turned i l)))
      ∙ sym (sum_z-add some (λ i. f (suc i)) (λ i. f (opposite_of s (suc i)))))
    where
      turned : (i : ℕ) → i < some → s.half + suc (some - suc i) ≡ opposite_of s (suc i)
      turned i l =
          let e : s.half + suc (some - suc i) ≡ s.side - suc i = omega (arith, l, t.whole, t.above) in
          e ∙ sym (conjugate i)

  -- ---- a fold at its places

  own-zero : 0 % s.half ≡ 0
  own-zero = zero-mod s.half

  own-half : s.half % s.half ≡ 0
  own-half = mod_self s.half

  low-apart : (i : ℕ) → i < some → suc i % s.half ≡ 0 → ⊥
  low-apart i l e =
      let m : suc i % s.half ≡ suc i = mod-eq_of_lt {n = suc i} {m = s.half} (omega (arith, l, t.above)) in
      omega (arith, e, m)

  high-apart : (i : ℕ) → i < some → (s.half + suc i) % s.half ≡ 0 → ⊥
  high-apart i l e = low-apart i l (sym (add-mod_left s.half (suc i)) ∙ e)

  module _ (g h : ℕ → ℤ) (i : ℕ) (l : i < some) where
    re-low : fold_re_of s g h (suc i) ≡ g (suc i) +ℤ g (opposite_of s (suc i))
    unfolding fold_re_of
    re-low =
        side-paired s (suc i) _ _ (low-apart i l)
        ∙ rw (lt-ltb (suc i) (s.half + 1) (omega (arith, l, t.above)), conjugate i)

    im-low : fold_im_of s g h (suc i) ≡ h (suc i) +ℤ h (opposite_of s (suc i))
    unfolding fold_im_of
    im-low =
        side-paired s (suc i) _ _ (low-apart i l)
        ∙ rw (lt-ltb (suc i) (s.half + 1) (omega (arith, l, t.above)), conjugate i)

    re-high : fold_re_of s g h (s.half + suc i) ≡ h (suc i) -ℤ h (opposite_of s (suc i))
    unfolding fold_re_of
    re-high =
        let e : s.half + suc i - s.half ≡ suc i = omega arith in
        let f : s.side + s.half - (s.half + suc i) ≡ s.side - suc i = omega arith in
        side-paired s (s.half + suc i) _ _ (high-apart i l)
        ∙ rw (le-ltb (s.half + suc i) (s.half + 1) (omega arith), e, f, conjugate i)

    im-high : fold_im_of s g h (s.half + suc i) ≡ g (opposite_of s (suc i)) -ℤ g (suc i)
    unfolding fold_im_of
    im-high =
        let e : s.half + suc i - s.half ≡ suc i = omega arith in
        let f : s.side + s.half - (s.half + suc i) ≡ s.side - suc i = omega arith in
        side-paired s (s.half + suc i) _ _ (high-apart i l)
        ∙ rw (le-ltb (s.half + suc i) (s.half + 1) (omega arith), e, f, conjugate i)

  module _ (g h : ℕ → ℤ) (k : ℕ) (own : k % s.half ≡ 0) where
    re-own : fold_re_of s g h k ≡ g k
    unfolding fold_re_of
    re-own = side-own s k _ _ own

    im-own : fold_im_of s g h k ≡ h k
    unfolding fold_im_of
    im-own = side-own s k _ _ own

  -- a sum over a fold
  folded-real : (g h b : ℕ → ℤ) → sum_z s.side (λ k. fold_re_of s g h k *ℤ b k) ≡ g 0 *ℤ b 0 +ℤ g s.half *ℤ b s.half +ℤ sum_z some (λ i. (g (suc i) +ℤ g (opposite_of s (suc i))) *ℤ b (suc i) +ℤ (h (suc i) -ℤ h (opposite_of s (suc i))) *ℤ b (s.half + suc i))
  folded-real g h b =
      placed (λ k. fold_re_of s g h k *ℤ b k)
      ∙ ap₂ ◌+ℤ◌ (ap₂ (λ p q. p *ℤ b 0 +ℤ q *ℤ b s.half) (re-own g h 0 own-zero) (re-own g h s.half own-half))
      (sum_z-cong some _ _ (λ i l. ap₂ (λ p q. p *ℤ b (suc i) +ℤ q *ℤ b (s.half + suc i)) (re-low g h i l) (re-high g h i l)))

  folded-imaginary : (g h b : ℕ → ℤ) → sum_z s.side (λ k. fold_im_of s g h k *ℤ b k) ≡ h 0 *ℤ b 0 +ℤ h s.half *ℤ b s.half +ℤ sum_z some (λ i. (h (suc i) +ℤ h (opposite_of s (suc i))) *ℤ b (suc i) +ℤ (g (opposite_of s (suc i)) -ℤ g (suc i)) *ℤ b (s.half + suc i))
  folded-imaginary g h b =
      placed (λ k. fold_im_of s g h k *ℤ b k)
      ∙ ap₂ ◌+ℤ◌ (ap₂ (λ p q. p *ℤ b 0 +ℤ q *ℤ b s.half) (im-own g h 0 own-zero) (im-own g h s.half own-half))
      (sum_z-cong some _ _ (λ i l. ap₂ (λ p q. p *ℤ b (suc i) +ℤ q *ℤ b (s.half + suc i)) (im-low g h i l) (im-high g h i l)))

  module _ (g h : ℕ → ℤ) (y : ℕ) (l : y < s.side) where
    -- the inverse's real parts are the sums back from one fold
    fold-real : sum_z s.side (λ u. g u *ℤ cos_at s (u * y) -ℤ h u *ℤ sin_at s (u * y)) ≡ backward_of s (fold_re_of s g h) y
    unfolding backward_of
    fold-real =
        paired (λ u. g u *ℤ cos_at s (u * y) -ℤ h u *ℤ sin_at s (u * y))
        ∙ ap₂ ◌+ℤ◌ (ap₂ ◌+ℤ◌ (own-real (g 0) (h 0) (t.sine_zero y l) (t.basis_real 0 y (omega arith) l)) (own-real (g s.half) (h s.half) (t.sine_half y l) (t.basis_real s.half y (omega arith) l)))
        (sum_z-cong some _ _
        (λ i m. pair-real (g (suc i)) (h (suc i)) (g (opposite_of s (suc i))) (h (opposite_of s (suc i))) (sin_at s (suc i * y))
        (t.cosine_opposite (suc i) y (omega (arith, t.whole, t.above)) l) (t.sine_opposite (suc i) y (omega (arith, t.whole, t.above)) l) (t.basis_real (suc i) y (omega (arith, t.whole, t.above)) l) (t.basis_imaginary i y m l)))
        ∙ sym (folded-real g h (λ k. basis_of s k y))

    -- and its imaginary parts those from the other
    fold-imaginary : sum_z s.side (λ u. g u *ℤ sin_at s (u * y) +ℤ h u *ℤ cos_at s (u * y)) ≡ backward_of s (fold_im_of s g h) y
    unfolding backward_of
    fold-imaginary =
        paired (λ u. g u *ℤ sin_at s (u * y) +ℤ h u *ℤ cos_at s (u * y))
        ∙ ap₂ ◌+ℤ◌ (ap₂ ◌+ℤ◌ (own-imaginary (g 0) (h 0) (t.sine_zero y l) (t.basis_real 0 y (omega arith) l)) (own-imaginary (g s.half) (h s.half) (t.sine_half y l) (t.basis_real s.half y (omega arith) l)))
        (sum_z-cong some _ _
        (λ i m. pair-imaginary (g (suc i)) (h (suc i)) (g (opposite_of s (suc i))) (h (opposite_of s (suc i))) (sin_at s (suc i * y))
        (t.cosine_opposite (suc i) y (omega (arith, t.whole, t.above)) l) (t.sine_opposite (suc i) y (omega (arith, t.whole, t.above)) l) (t.basis_real (suc i) y (omega (arith, t.whole, t.above)) l) (t.basis_imaginary i y m l)))
        ∙ sym (folded-imaginary g h (λ k. basis_of s k y))

  -- ---- two ways

  -- u and −u may change places in a sum
  opposite-zero : opposite_of s 0 ≡ 0
  opposite-zero = let e : s.side - 0 ≡ s.side = omega arith in ap (λ n. n % s.side) e ∙ mod_self s.side

  opposite-half : opposite_of s s.half ≡ s.half
  opposite-half = opposite-is s s.half (omega (arith, t.above)) side_above ∙ omega (arith, t.whole)

  opposite-twice : (i : ℕ) → i < some → opposite_of s (opposite_of s (suc i)) ≡ suc i
  opposite-twice i l =
      ap (opposite_of s) (conjugate i) ∙ opposite-is s (s.side - suc i) (omega (arith, l, t.whole, t.above)) side_above
      ∙ omega (arith, l, t.whole, t.above)

  reflected : (f : ℕ → ℤ) → sum_z s.side (λ u. f (opposite_of s u)) ≡ sum_z s.side f
  reflected f =
      paired (λ u. f (opposite_of s u))
      ∙ ap₂ ◌+ℤ◌ (ap₂ (λ a b. f a +ℤ f b) opposite-zero opposite-half)
      (sum_z-cong some _ (λ i. f (suc i) +ℤ f (opposite_of s (suc i))) (λ i m. ap (λ j. f (opposite_of s (suc i)) +ℤ f j) (opposite-twice i m) ∙ +ℤ_comm (f (opposite_of s (suc i))) (f (suc i))))
      ∙ sym (paired f)

  -- a column that counts once, and one that counts twice
  module _ (k : ℕ) (z : ℤ) where
    counts-once : k % s.half ≡ 0 → counted_of s k z ≡ z
    unfolding counted_of
    counts-once = side-own s k z (pos 2 *ℤ z)

    counts-twice : (k % s.half ≡ 0 → ⊥) → counted_of s k z ≡ pos 2 *ℤ z
    unfolding counted_of
    counts-twice = side-paired s k z (pos 2 *ℤ z)

  module _ (g h : ℕ → ℕ → ℤ) (y : ℕ) where
    -- the sums along column v
    abbrev column_re : ℕ → ℤ
    column_re = along_re s (λ v u. g u v) (λ v u. h u v) y

    abbrev column_im : ℕ → ℤ
    column_im = along_im s (λ v u. g u v) (λ v u. h u v) y

    -- the inverse sum by columns and then rows
    by-columns : (x : ℕ) → inverse_re s g h y x ≡ sum_z s.side (λ v. column_re v *ℤ cos_at s (v * x) -ℤ column_im v *ℤ sin_at s (v * x))
    unfolding inverse_re twiddle_re twiddle_im
    by-columns x =
        sum_z-exchange s.side s.side (λ u v. twiddle_re s y x u v *ℤ g u v -ℤ twiddle_im s y x u v *ℤ h u v)
        ∙ sum_z-cong s.side _ _ (λ v i. sum_z-cong s.side _ (λ u. twiddle_re s x y v u *ℤ g u v -ℤ twiddle_im s x y v u *ℤ h u v)
        (λ u j. ring (cos_at s (u * y) ∷ sin_at s (u * y) ∷ cos_at s (v * x) ∷ sin_at s (v * x) ∷ g u v ∷ h u v ∷ [])
        ((var 0 ⊠ var 2 ⊟ var 1 ⊠ var 3) ⊠ var 4 ⊟ (var 0 ⊠ var 3 ⊞ var 1 ⊠ var 2) ⊠ var 5)
        ((var 2 ⊠ var 0 ⊟ var 3 ⊠ var 1) ⊠ var 4 ⊟ (var 2 ⊠ var 1 ⊞ var 3 ⊠ var 0) ⊠ var 5) tt))
        ∙ two-way s (λ v u. g u v) (λ v u. h u v) y x

    -- the folded columns
    spread-low : (k : ℕ) → k < s.half + 1 → spread_of s g h k ≡ fold_re_of s (λ u. g u k) (λ u. h u k)
    unfolding spread_of
    spread-low k m = rw (lt-ltb k (s.half + 1) m)

    spread-high : (i : ℕ) → spread_of s g h (s.half + suc i) ≡ fold_im_of s (λ u. g u (suc i)) (λ u. h u (suc i))
    unfolding spread_of
    spread-high i =
        let e : s.half + suc i - s.half ≡ suc i = omega arith in
        rw (le-ltb (s.half + suc i) (s.half + 1) (omega arith), e)

    abbrev column : (ℕ → ℤ) → ℤ
    column z = backward_of s z y

    -- the sum over the counted columns
    spread-out : (b : ℕ → ℤ) → sum_z s.side (λ k. counted_of s k (backward_of s (spread_of s g h k) y) *ℤ b k)
        ≡ backward_of s (fold_re_of s (λ u. g u 0) (λ u. h u 0)) y *ℤ b 0 +ℤ backward_of s (fold_re_of s (λ u. g u s.half) (λ u. h u s.half)) y *ℤ b s.half
        +ℤ sum_z some (λ i. pos 2 *ℤ backward_of s (fold_re_of s (λ u. g u (suc i)) (λ u. h u (suc i))) y *ℤ b (suc i) +ℤ pos 2 *ℤ backward_of s (fold_im_of s (λ u. g u (suc i)) (λ u. h u (suc i))) y *ℤ b (s.half + suc i))
    spread-out b =
        placed (λ k. counted_of s k (column (spread_of s g h k)) *ℤ b k)
        ∙ ap₂ ◌+ℤ◌
        (ap₂ (λ p q. p *ℤ b 0 +ℤ q *ℤ b s.half) (counts-once 0 _ own-zero ∙ ap column (spread-low 0 (omega arith))) (counts-once s.half _ own-half ∙ ap column (spread-low s.half (omega arith))))
        (sum_z-cong some _ _
        (λ i l. ap₂ (λ p q. p *ℤ b (suc i) +ℤ q *ℤ b (s.half + suc i))
        (counts-twice (suc i) _ (low-apart i l) ∙ ap (λ z. pos 2 *ℤ column z) (spread-low (suc i) (omega (arith, l))))
        (counts-twice (s.half + suc i) _ (high-apart i l) ∙ ap (λ z. pos 2 *ℤ column z) (spread-high i))))

    module _ (l : y < s.side) where
      column-real : (v : ℕ) → column_re v ≡ backward_of s (fold_re_of s (λ u. g u v) (λ u. h u v)) y
      unfolding along_re
      column-real v = fold-real (λ u. g u v) (λ u. h u v) y l

      column-imaginary : (v : ℕ) → column_im v ≡ backward_of s (fold_im_of s (λ u. g u v) (λ u. h u v)) y
      unfolding along_im
      column-imaginary v = fold-imaginary (λ u. g u v) (λ u. h u v) y l

      module _ (m : MirroredOf s g h) (v : ℕ) (k : v < s.side) where
        -- column −v is the conjugate of column v
        mirror-real : column_re (opposite_of s v) ≡ column_re v
        unfolding along_re
        mirror-real =
            sym (reflected (λ u. g u (opposite_of s v) *ℤ cos_at s (u * y) -ℤ h u (opposite_of s v) *ℤ sin_at s (u * y)))
            ∙ sum_z-cong s.side _ _ (λ u j. ap₂ (λ a x. a *ℤ x -ℤ h (opposite_of s u) (opposite_of s v) *ℤ sin_at s (opposite_of s u * y)) (m.re u v j k) (t.cosine_opposite u y j l)
            ∙ ap₂ (λ c z. g u v *ℤ cos_at s (u * y) -ℤ c *ℤ z) (m.im u v j k) (t.sine_opposite u y j l)
            ∙ ring (g u v ∷ h u v ∷ cos_at s (u * y) ∷ sin_at s (u * y) ∷ []) (var 0 ⊠ var 2 ⊟ ⊖ var 1 ⊠ ⊖ var 3) (var 0 ⊠ var 2 ⊟ var 1 ⊠ var 3) tt)

        mirror-imaginary : column_im (opposite_of s v) ≡ neg_ℤ (column_im v)
        unfolding along_im
        mirror-imaginary =
            sym (reflected (λ u. g u (opposite_of s v) *ℤ sin_at s (u * y) +ℤ h u (opposite_of s v) *ℤ cos_at s (u * y)))
            ∙ sum_z-cong s.side _ _ (λ u j. ap₂ (λ a z. a *ℤ z +ℤ h (opposite_of s u) (opposite_of s v) *ℤ cos_at s (opposite_of s u * y)) (m.re u v j k) (t.sine_opposite u y j l)
            ∙ ap₂ (λ c x. g u v *ℤ neg_ℤ (sin_at s (u * y)) +ℤ c *ℤ x) (m.im u v j k) (t.cosine_opposite u y j l)
            ∙ ring (g u v ∷ h u v ∷ cos_at s (u * y) ∷ sin_at s (u * y) ∷ []) (var 0 ⊠ ⊖ var 3 ⊞ ⊖ var 1 ⊠ var 2) (⊖ (var 0 ⊠ var 3 ⊞ var 1 ⊠ var 2)) tt)
            ∙ sum_z-neg s.side (λ u. g u v *ℤ sin_at s (u * y) +ℤ h u v *ℤ cos_at s (u * y))

        -- so that the two count twice
        twice-real : column_re v +ℤ column_re (opposite_of s v) ≡ pos 2 *ℤ backward_of s (fold_re_of s (λ u. g u v) (λ u. h u v)) y
        twice-real =
            ap (λ z. column_re v +ℤ z) mirror-real ∙ ring (column_re v ∷ []) (var 0 ⊞ var 0) (# 2 ⊠ var 0) tt ∙ ap (λ z. pos 2 *ℤ z) (column-real v)

        twice-imaginary : column_im v -ℤ column_im (opposite_of s v) ≡ pos 2 *ℤ backward_of s (fold_im_of s (λ u. g u v) (λ u. h u v)) y
        twice-imaginary =
            ap (λ z. column_im v -ℤ z) mirror-imaginary ∙ ring (column_im v ∷ []) (var 0 ⊟ ⊖ var 0) (# 2 ⊠ var 0) tt ∙ ap (λ z. pos 2 *ℤ z) (column-imaginary v)

      -- the inverse sum of a spectrum of real differences is the sum back over its folded columns, both ways
      pub inverse-folds : MirroredOf s g h → (x : ℕ) → x < s.side → inverse_re s g h y x ≡ back_sum_of s (spread_of s g h) y x
      unfolding backward_of back_sum_of
      inverse-folds m x q =
          by-columns x ∙ fold-real column_re column_im x q ∙ folded-real column_re column_im (λ k. basis_of s k x)
          ∙ ap₂ ◌+ℤ◌ (ap₂ (λ p r. p *ℤ basis_of s 0 x +ℤ r *ℤ basis_of s s.half x) (column-real 0) (column-real s.half))
          (sum_z-cong some _ _ (λ i n. ap₂ (λ p r. p *ℤ basis_of s (suc i) x +ℤ r *ℤ basis_of s (s.half + suc i) x) (twice-real m (suc i) (omega (arith, t.whole, t.above))) (twice-imaginary m (suc i) (omega (arith, t.whole, t.above)))))
          ∙ sym (spread-out (λ k. basis_of s k x))
