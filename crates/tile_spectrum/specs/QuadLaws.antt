-- The quads of a folded G: what the four places at u and 8 + u of lines v and 8 + v come to.
use Rattle.tile_spectrum.specs.Prelude.{refl, sym, ap, ap₂, subst, ◌∙◌, Bool, true, false, cond, List, [], arith, ltb, get_or, tab, Side, side16, filtered}
use Prim.Native.Nat.{ℕ, zero, suc, ◌+◌, ◌-◌, ◌%◌, ◌<◌}
use Rattle.std.proofs.Common.{mod-eq_of_lt, lt-ltb, le-ltb}
use Rattle.std.proofs.Math.Nat.{zero-mod, add-mod_left}
use Rattle.std.specs.Prelude.{ℤ, neg_ℤ, ◌≡◌, ◌∷◌}
use Rattle.std.proofs.Math.IntN.{pos, ◌+ℤ◌, ◌-ℤ◌, +ℤ_idr, +ℤ_idl, +ℤ_comm, neg_ℤ-neg_ℤ}
use Rattle.tile_spectrum.specs.Spectrum.{real_part, imaginary_part, beside_of, tile_re_of, tile_im_of, fold_re_of, fold_im_of, spread_of, quad_places, two_bins_of, gain_re_of, gain_im_of, by_kind, folded_quad, tile_re, tile_im, two_bins}
use Rattle.tile_spectrum.specs.Turns.{Turns, turns16}
use Rattle.tile_spectrum.specs.SpectrumLaws.{filtered-odd-of, filtered-even-of}
use Rattle.tile_spectrum.specs.Apart.{side-own, side-paired, side-cases}

quad-ext : {A B : Type 0} (q : A → A → A → A → B) {a b c d a' b' c' d' : A} → a ≡ a' → b ≡ b' → c ≡ c' → d ≡ d' → q a b c d ≡ q a' b' c' d'
quad-ext q a b c d = ap₂ (λ g h. g h) (ap₂ (λ g h. g h) (ap₂ q a b) c) d

pub four : {A : Type 0} {a b c d a' b' c' d' : A} → a ≡ a' → b ≡ b' → c ≡ c' → d ≡ d' → a ∷ b ∷ c ∷ d ∷ [] ≡ a' ∷ b' ∷ c' ∷ d' ∷ []
four = quad-ext (λ a b c d. a ∷ b ∷ c ∷ d ∷ [])

-- what holds of four numbers, and of 0
pub four-each : (P : ℤ → Type 0) (a b c d : ℤ) → P (pos 0) → P a → P b → P c → P d → (i : ℕ) → P (get_or (a ∷ b ∷ c ∷ d ∷ []) i (pos 0))
four-each P a b c d n p q r s zero = p
four-each P a b c d n p q r s (suc zero) = q
four-each P a b c d n p q r s (suc (suc zero)) = r
four-each P a b c d n p q r s (suc (suc (suc zero))) = s
four-each P a b c d n p q r s (suc (suc (suc (suc i)))) = n

-- the kind of quad (v, u)
module _ {A : Type 0} (top left inner : A) where
  pub is-top : (v u : ℕ) → v ≡ 0 → by_kind v u top left inner ≡ top
  unfolding by_kind
  is-top v u h = rw h refl

  pub is-left : (v u : ℕ) → 0 < v → u ≡ 0 → by_kind v u top left inner ≡ left
  unfolding by_kind
  is-left zero u l h = absurd (omega arith)
  is-left (suc v) u l h = rw h refl

  pub is-inner : (v u : ℕ) → 0 < v → 0 < u → by_kind v u top left inner ≡ inner
  unfolding by_kind
  is-inner zero u l h = absurd (omega arith)
  is-inner (suc v) zero l h = absurd (omega arith)
  is-inner (suc v) (suc u) l h = refl

either : (b : Bool) → cond b (pos 0) (pos 0) ≡ pos 0
either true = refl
either false = refl

module _ {s : Side} (turn : Turns s) where
  -- numbers 0 and n/2 are their own conjugates, and the others are not
  own-zero : 0 % s.half ≡ 0
  own-zero = zero-mod s.half

  own-half : (s.half + 0) % s.half ≡ 0
  own-half = add-mod_left s.half 0 ∙ zero-mod s.half

  low-apart : (u : ℕ) → 0 < u → u < s.half → u % s.half ≡ 0 → ⊥
  low-apart u l h e = let m : u % s.half ≡ u = mod-eq_of_lt {n = u} {m = s.half} h in omega (arith, e, m, l)

  high-apart : (u : ℕ) → 0 < u → u < s.half → (s.half + u) % s.half ≡ 0 → ⊥
  high-apart u l h e = low-apart u l h (sym (add-mod_left s.half u) ∙ e)

  mirror-apart : (u : ℕ) → 0 < u → u < s.half → (s.side - u) % s.half ≡ 0 → ⊥
  mirror-apart u l h e =
      let i : s.half + (s.half - u) ≡ s.side - u = omega (arith, h, turn.whole) in
      high-apart (s.half - u) (omega (arith, h)) (omega (arith, l, h)) (ap (λ k. k % s.half) i ∙ e)

  -- number u or n − u of a line in halfcomplex form
  module _ (z : ℕ → ℤ) (u : ℕ) where
    real-low : u < s.half + 1 → real_part s z u ≡ z u
    unfolding real_part
    real-low h = rw (lt-ltb u (s.half + 1) h)

    real-high : 0 < u → u < s.half → real_part s z (s.side - u) ≡ z u
    unfolding real_part
    real-high l h = let e : s.side - (s.side - u) ≡ u = omega (arith, turn.whole, turn.above) in rw (le-ltb (s.side - u) (s.half + 1) (omega (arith, turn.whole, turn.above)), e)

    imaginary-own : u % s.half ≡ 0 → imaginary_part s z u ≡ pos 0
    unfolding imaginary_part
    imaginary-own h = side-own s u (pos 0) _ h

    imaginary-low : 0 < u → u < s.half → imaginary_part s z u ≡ z (s.half + u)
    unfolding imaginary_part
    imaginary-low l h = side-paired s u (pos 0) _ (low-apart u l h) ∙ rw (lt-ltb u (s.half + 1) (omega (arith, turn.whole, turn.above)))

    imaginary-high : 0 < u → u < s.half → imaginary_part s z (s.side - u) ≡ neg_ℤ (z (s.half + u))
    unfolding imaginary_part
    imaginary-high l h =
        let e : s.side + s.half - (s.side - u) ≡ s.half + u = omega (arith, turn.whole, turn.above) in
        side-paired s (s.side - u) (pos 0) _ (mirror-apart u l h) ∙ rw (le-ltb (s.side - u) (s.half + 1) (omega (arith, turn.whole, turn.above)), e)

  -- the folds of a line
  module _ (g h : ℕ → ℤ) (b : ℕ) where
    re-own : b % s.half ≡ 0 → fold_re_of s g h b ≡ g b
    unfolding fold_re_of
    re-own k = side-own s b (g b) _ k

    im-own : b % s.half ≡ 0 → fold_im_of s g h b ≡ h b
    unfolding fold_im_of
    im-own k = side-own s b (h b) _ k

    re-low : 0 < b → b < s.half → fold_re_of s g h b ≡ g b +ℤ g (s.side - b)
    unfolding fold_re_of
    re-low l k = side-paired s b (g b) _ (low-apart b l k) ∙ rw (lt-ltb b (s.half + 1) (omega (arith, turn.whole, turn.above)))

    im-low : 0 < b → b < s.half → fold_im_of s g h b ≡ h b +ℤ h (s.side - b)
    unfolding fold_im_of
    im-low l k = side-paired s b (h b) _ (low-apart b l k) ∙ rw (lt-ltb b (s.half + 1) (omega (arith, turn.whole, turn.above)))

    re-high : 0 < b → b < s.half → fold_re_of s g h (s.half + b) ≡ h b -ℤ h (s.side - b)
    unfolding fold_re_of
    re-high l k =
        let e : s.half + b - s.half ≡ b = omega (arith, turn.whole, turn.above) in
        let f : s.side + s.half - (s.half + b) ≡ s.side - b = omega (arith, turn.whole, turn.above) in
        side-paired s (s.half + b) (g (s.half + b)) _ (high-apart b l k) ∙ rw (le-ltb (s.half + b) (s.half + 1) (omega (arith, turn.whole, turn.above)), e, f)

    im-high : 0 < b → b < s.half → fold_im_of s g h (s.half + b) ≡ g (s.side - b) -ℤ g b
    unfolding fold_im_of
    im-high l k =
        let e : s.half + b - s.half ≡ b = omega (arith, turn.whole, turn.above) in
        let f : s.side + s.half - (s.half + b) ≡ s.side - b = omega (arith, turn.whole, turn.above) in
        side-paired s (s.half + b) (h (s.half + b)) _ (high-apart b l k) ∙ rw (le-ltb (s.half + b) (s.half + 1) (omega (arith, turn.whole, turn.above)), e, f)

  module _ (g h : ℕ → ℕ → ℤ) (b : ℕ) where
    line-re : (k : ℕ) → k < s.half + 1 → spread_of s g h k b ≡ fold_re_of s (λ u. g u k) (λ u. h u k) b
    unfolding spread_of
    line-re k l = rw (lt-ltb k (s.half + 1) l)

    line-im : (v : ℕ) → 0 < v → spread_of s g h (s.half + v) b ≡ fold_im_of s (λ u. g u v) (λ u. h u v) b
    unfolding spread_of
    line-im v l = let e : s.half + v - s.half ≡ v = omega (arith, turn.whole, turn.above) in rw (le-ltb (s.half + v) (s.half + 1) (omega (arith, turn.whole, turn.above)), e)

  module _ (noise : ℕ) (t : ℕ → ℕ → ℤ) where
    abbrev f : ℤ → ℤ → ℤ
    f = filtered s noise

    abbrev Quad : (v u : ℕ) → List ℤ
    Quad = quad_places s (spread_of s (gain_re_of s noise t) (gain_im_of s noise t))

    -- bins whose column has an imaginary line beside it
    module _ (v : ℕ) (m : 0 < v) (n : v < s.half) where
      beside-is : beside_of s t v ≡ t (s.half + v)
      unfolding beside_of
      beside-is = side-paired s v _ (t (s.half + v)) (low-apart v m n)

      module _ (u : ℕ) (l : 0 < u) (h : u < s.half) where
        low-re : tile_re_of s t u v ≡ t v u -ℤ t (s.half + v) (s.half + u)
        unfolding tile_re_of
        low-re = ap₂ ◌-ℤ◌ (real-low (t v) u (omega (arith, turn.whole, turn.above))) (ap (λ z. imaginary_part s z u) beside-is ∙ imaginary-low (t (s.half + v)) u l h)

        low-im : tile_im_of s t u v ≡ t v (s.half + u) +ℤ t (s.half + v) u
        unfolding tile_im_of
        low-im = ap₂ ◌+ℤ◌ (imaginary-low (t v) u l h) (ap (λ z. real_part s z u) beside-is ∙ real-low (t (s.half + v)) u (omega (arith, turn.whole, turn.above)))

        high-re : tile_re_of s t (s.side - u) v ≡ t v u +ℤ t (s.half + v) (s.half + u)
        unfolding tile_re_of
        high-re =
            ap₂ ◌-ℤ◌ (real-high (t v) u l h) (ap (λ z. imaginary_part s z (s.side - u)) beside-is ∙ imaginary-high (t (s.half + v)) u l h)
            ∙ ap (λ z. t v u +ℤ z) (neg_ℤ-neg_ℤ (t (s.half + v) (s.half + u)))

        high-im : tile_im_of s t (s.side - u) v ≡ t (s.half + v) u -ℤ t v (s.half + u)
        unfolding tile_im_of
        high-im =
            ap₂ ◌+ℤ◌ (imaginary-high (t v) u l h) (ap (λ z. real_part s z (s.side - u)) beside-is ∙ real-high (t (s.half + v)) u l h)
            ∙ +ℤ_comm (neg_ℤ (t v (s.half + u))) (t (s.half + v) u)

      -- numbers 0 and n/2
      module _ (u : ℕ) (l : u < s.half + 1) (o : u % s.half ≡ 0) where
        own-re : tile_re_of s t u v ≡ t v u
        unfolding tile_re_of
        own-re = ap₂ ◌-ℤ◌ (real-low (t v) u l) (imaginary-own (beside_of s t v) u o) ∙ +ℤ_idr (t v u)

        own-im : tile_im_of s t u v ≡ t (s.half + v) u
        unfolding tile_im_of
        own-im =
            ap₂ ◌+ℤ◌ (imaginary-own (t v) u o) (ap (λ z. real_part s z u) beside-is ∙ real-low (t (s.half + v)) u l) ∙ +ℤ_idl (t (s.half + v) u)

    -- columns 0 and n/2, with nothing beside
    module _ (v : ℕ) (o : v % s.half ≡ 0) where
      beside_none : beside_of s t v ≡ (λ b. pos 0)
      unfolding beside_of
      beside_none = side-own s v (λ b. pos 0) (t (s.half + v)) o

      column-re : (u : ℕ) → tile_re_of s t u v ≡ real_part s (t v) u
      unfolding tile_re_of imaginary_part
      column-re u =
          ap (λ z. real_part s (t v) u -ℤ imaginary_part s z u) beside_none
          ∙ ap (λ z. real_part s (t v) u -ℤ z) (side-cases s u (pos 0) _ (λ z. z ≡ pos 0) refl (either (ltb u (s.half + 1)))) ∙ +ℤ_idr (real_part s (t v) u)

      column-im : (u : ℕ) → tile_im_of s t u v ≡ imaginary_part s (t v) u
      unfolding tile_im_of real_part
      column-im u =
          ap (λ z. imaginary_part s (t v) u +ℤ real_part s z u) beside_none ∙ ap (λ z. imaginary_part s (t v) u +ℤ z) (either (ltb u (s.half + 1)))
          ∙ +ℤ_idr (imaginary_part s (t v) u)

      -- number u of such a column and number n − u, which is its conjugate
      module _ (u : ℕ) (l : 0 < u) (h : u < s.half) where
        line-low-re : tile_re_of s t u v ≡ t v u
        line-low-re = column-re u ∙ real-low (t v) u (omega (arith, turn.whole, turn.above))

        line-low-im : tile_im_of s t u v ≡ t v (s.half + u)
        line-low-im = column-im u ∙ imaginary-low (t v) u l h

        line-gain-re : gain_re_of s noise t u v ≡ f (t v u) (t v (s.half + u))
        unfolding gain_re_of
        line-gain-re = ap₂ f line-low-re line-low-im

        line-gain-im : gain_im_of s noise t u v ≡ f (t v (s.half + u)) (t v u)
        unfolding gain_im_of
        line-gain-im = ap₂ f line-low-im line-low-re

        mirror-re : gain_re_of s noise t (s.side - u) v ≡ f (t v u) (t v (s.half + u))
        unfolding gain_re_of
        mirror-re =
            ap₂ f (column-re (s.side - u) ∙ real-high (t v) u l h) (column-im (s.side - u) ∙ imaginary-high (t v) u l h)
            ∙ filtered-even-of s noise (t v u) (t v (s.half + u))

        mirror-im : gain_im_of s noise t (s.side - u) v ≡ neg_ℤ (f (t v (s.half + u)) (t v u))
        unfolding gain_im_of
        mirror-im =
            ap₂ f (column-im (s.side - u) ∙ imaginary-high (t v) u l h) (column-re (s.side - u) ∙ real-high (t v) u l h)
            ∙ filtered-odd-of s noise (t v (s.half + u)) (t v u)

        -- its two places in the fold
        column-low : fold_re_of s (λ u. gain_re_of s noise t u v) (λ u. gain_im_of s noise t u v) u ≡ f (t v u) (t v (s.half + u)) +ℤ f (t v u) (t v (s.half + u))
        column-low = re-low _ _ u l h ∙ ap₂ ◌+ℤ◌ line-gain-re mirror-re

        column-high : fold_re_of s (λ u. gain_re_of s noise t u v) (λ u. gain_im_of s noise t u v) (s.half + u) ≡ f (t v (s.half + u)) (t v u) +ℤ f (t v (s.half + u)) (t v u)
        column-high =
            re-high _ _ u l h ∙ ap₂ ◌-ℤ◌ line-gain-im mirror-im ∙ ap (λ z. f (t v (s.half + u)) (t v u) +ℤ z) (neg_ℤ-neg_ℤ (f (t v (s.half + u)) (t v u)))

      -- numbers 0 and n/2 of such a column are real
      column-own : (u : ℕ) → u < s.half + 1 → u % s.half ≡ 0 → fold_re_of s (λ u. gain_re_of s noise t u v) (λ u. gain_im_of s noise t u v) u ≡ f (t v u) (pos 0)
      unfolding gain_re_of
      column-own u l k = re-own _ _ u k ∙ ap₂ f (column-re u ∙ real-low (t v) u l) (column-im u ∙ imaginary-own (t v) u k)

    inner-quad : (v u : ℕ) → 0 < v → v < s.half → 0 < u → u < s.half → Quad v u ≡ (f (t v u -ℤ t (s.half + v) (s.half + u)) (t v (s.half + u) +ℤ t (s.half + v) u) +ℤ f (t v u +ℤ t (s.half + v) (s.half + u)) (t (s.half + v) u -ℤ t v (s.half + u))) ∷ (f (t v (s.half + u) +ℤ t (s.half + v) u) (t v u -ℤ t (s.half + v) (s.half + u)) -ℤ f (t (s.half + v) u -ℤ t v (s.half + u)) (t v u +ℤ t (s.half + v) (s.half + u))) ∷ (f (t v (s.half + u) +ℤ t (s.half + v) u) (t v u -ℤ t (s.half + v) (s.half + u)) +ℤ f (t (s.half + v) u -ℤ t v (s.half + u)) (t v u +ℤ t (s.half + v) (s.half + u))) ∷ (f (t v u +ℤ t (s.half + v) (s.half + u)) (t (s.half + v) u -ℤ t v (s.half + u)) -ℤ f (t v u -ℤ t (s.half + v) (s.half + u)) (t v (s.half + u) +ℤ t (s.half + v) u)) ∷ []
    unfolding quad_places gain_re_of gain_im_of
    inner-quad v u m n l h =
        four
        (line-re _ _ u v (omega (arith, turn.whole, turn.above)) ∙ re-low _ _ u l h ∙ ap₂ ◌+ℤ◌ re re')
        (line-re _ _ (s.half + u) v (omega (arith, turn.whole, turn.above)) ∙ re-high _ _ u l h ∙ ap₂ ◌-ℤ◌ im im')
        (line-im _ _ u v m ∙ im-low _ _ u l h ∙ ap₂ ◌+ℤ◌ im im')
        (line-im _ _ (s.half + u) v m ∙ im-high _ _ u l h ∙ ap₂ ◌-ℤ◌ re' re)
      where
        re : gain_re_of s noise t u v ≡ f (t v u -ℤ t (s.half + v) (s.half + u)) (t v (s.half + u) +ℤ t (s.half + v) u)
        re = ap₂ f (low-re v m n u l h) (low-im v m n u l h)

        im : gain_im_of s noise t u v ≡ f (t v (s.half + u) +ℤ t (s.half + v) u) (t v u -ℤ t (s.half + v) (s.half + u))
        im = ap₂ f (low-im v m n u l h) (low-re v m n u l h)

        re' : gain_re_of s noise t (s.side - u) v ≡ f (t v u +ℤ t (s.half + v) (s.half + u)) (t (s.half + v) u -ℤ t v (s.half + u))
        re' = ap₂ f (high-re v m n u l h) (high-im v m n u l h)

        im' : gain_im_of s noise t (s.side - u) v ≡ f (t (s.half + v) u -ℤ t v (s.half + u)) (t v u +ℤ t (s.half + v) (s.half + u))
        im' = ap₂ f (high-im v m n u l h) (high-re v m n u l h)

    left-quad : (v : ℕ) → 0 < v → v < s.half → Quad v 0 ≡ f (t v 0) (t (s.half + v) 0) ∷ f (t v (s.half + 0)) (t (s.half + v) (s.half + 0)) ∷ f (t (s.half + v) 0) (t v 0) ∷ f (t (s.half + v) (s.half + 0)) (t v (s.half + 0)) ∷ []
    unfolding quad_places gain_re_of gain_im_of
    left-quad v m n =
        four
        (line-re _ _ 0 v (omega (arith, turn.whole, turn.above)) ∙ re-own _ _ 0 own-zero ∙ ap₂ f (own-re v m n 0 (omega (arith, turn.whole, turn.above)) own-zero) (own-im v m n 0 (omega (arith, turn.whole, turn.above)) own-zero))
        (line-re _ _ (s.half + 0) v (omega (arith, turn.whole, turn.above)) ∙ re-own _ _ (s.half + 0) own-half ∙ ap₂ f (own-re v m n (s.half + 0) (omega (arith, turn.whole, turn.above)) own-half) (own-im v m n (s.half + 0) (omega (arith, turn.whole, turn.above)) own-half))
        (line-im _ _ 0 v m ∙ im-own _ _ 0 own-zero ∙ ap₂ f (own-im v m n 0 (omega (arith, turn.whole, turn.above)) own-zero) (own-re v m n 0 (omega (arith, turn.whole, turn.above)) own-zero))
        (line-im _ _ (s.half + 0) v m ∙ im-own _ _ (s.half + 0) own-half ∙ ap₂ f (own-im v m n (s.half + 0) (omega (arith, turn.whole, turn.above)) own-half) (own-re v m n (s.half + 0) (omega (arith, turn.whole, turn.above)) own-half))

    top-quad : (u : ℕ) → 0 < u → u < s.half → Quad 0 u ≡ (f (t 0 u) (t 0 (s.half + u)) +ℤ f (t 0 u) (t 0 (s.half + u))) ∷ (f (t 0 (s.half + u)) (t 0 u) +ℤ f (t 0 (s.half + u)) (t 0 u)) ∷ (f (t (s.half + 0) u) (t (s.half + 0) (s.half + u)) +ℤ f (t (s.half + 0) u) (t (s.half + 0) (s.half + u))) ∷ (f (t (s.half + 0) (s.half + u)) (t (s.half + 0) u) +ℤ f (t (s.half + 0) (s.half + u)) (t (s.half + 0) u)) ∷ []
    unfolding quad_places
    top-quad u l h =
        four
        (line-re _ _ u 0 (omega (arith, turn.whole, turn.above)) ∙ column-low 0 own-zero u l h)
        (line-re _ _ (s.half + u) 0 (omega (arith, turn.whole, turn.above)) ∙ column-high 0 own-zero u l h)
        (line-re _ _ u (s.half + 0) (omega (arith, turn.whole, turn.above)) ∙ column-low (s.half + 0) own-half u l h)
        (line-re _ _ (s.half + u) (s.half + 0) (omega (arith, turn.whole, turn.above)) ∙ column-high (s.half + 0) own-half u l h)

    -- part i of the two bins of quad (v, u)
    abbrev Bin : (v u i : ℕ) → ℤ
    Bin v u i = get_or (two_bins_of s t v u) i (pos 0)

    pub quad_is : (v u : ℕ) → v < s.half → u < s.half → 0 < v + u → Quad v u ≡ folded_quad v u (f (Bin v u 0) (Bin v u 1)) (f (Bin v u 1) (Bin v u 0)) (f (Bin v u 2) (Bin v u 3)) (f (Bin v u 3) (Bin v u 2))
    unfolding two_bins_of folded_quad by_kind quad_places
    quad_is zero zero h l o = absurd (omega arith)
    quad_is zero (suc u) h l o = top-quad (suc u) (omega (arith, turn.whole, turn.above)) l
    quad_is (suc v) zero h l o = left-quad (suc v) (omega (arith, turn.whole, turn.above)) h
    quad_is (suc v) (suc u) h l o = inner-quad (suc v) (suc u) (omega (arith, turn.whole, turn.above)) h (omega (arith, turn.whole, turn.above)) l

    pub corner-is : Quad 0 0 ≡ tab 4 (λ i. f (Bin 0 0 i) (pos 0))
    unfolding quad_places two_bins_of by_kind tab
    corner-is =
        four
        (line-re _ _ 0 0 (omega (arith, turn.whole, turn.above)) ∙ column-own 0 own-zero 0 (omega (arith, turn.whole, turn.above)) own-zero)
        (line-re _ _ (s.half + 0) 0 (omega (arith, turn.whole, turn.above)) ∙ column-own 0 own-zero (s.half + 0) (omega (arith, turn.whole, turn.above)) own-half)
        (line-re _ _ 0 (s.half + 0) (omega (arith, turn.whole, turn.above)) ∙ column-own (s.half + 0) own-half 0 (omega (arith, turn.whole, turn.above)) own-zero)
        (line-re _ _ (s.half + 0) (s.half + 0) (omega (arith, turn.whole, turn.above)) ∙ column-own (s.half + 0) own-half (s.half + 0) (omega (arith, turn.whole, turn.above)) own-half)

  -- The two bins of a quad are bins of the tile
  module _ (t : ℕ → ℕ → ℤ) (P : ℤ → Type 0) (none : P (pos 0)) (re : (u v : ℕ) → u < s.side → v < s.half + 1 → P (tile_re_of s t u v)) (im : (u v : ℕ) → u < s.side → v < s.half + 1 → P (tile_im_of s t u v)) where
    pub bins-each-of : (v u : ℕ) → v < s.half → u < s.half → (i : ℕ) → P (get_or (two_bins_of s t v u) i (pos 0))
    unfolding two_bins_of by_kind quad_places
    bins-each-of zero zero m l =
        four-each P _ _ _ _ none (own 0 own-zero (omega (arith, turn.whole, turn.above)) 0 (omega (arith, turn.whole, turn.above)) own-zero) (own 0 own-zero (omega (arith, turn.whole, turn.above)) (s.half + 0) (omega (arith, turn.whole, turn.above)) own-half)
        (own (s.half + 0) own-half (omega (arith, turn.whole, turn.above)) 0 (omega (arith, turn.whole, turn.above)) own-zero) (own (s.half + 0) own-half (omega (arith, turn.whole, turn.above)) (s.half + 0) (omega (arith, turn.whole, turn.above)) own-half)
      where
        own : (v : ℕ) → v % s.half ≡ 0 → v < s.half + 1 → (u : ℕ) → u < s.half + 1 → u % s.half ≡ 0 → P (t v u)
        own v o w u l k = subst P (column-re 0 t v o u ∙ real-low (t v) u l) (re u v (omega (arith, turn.whole, turn.above)) w)
    bins-each-of zero (suc u) m l =
        four-each P _ _ _ _ none (subst P (line-low-re 0 t 0 own-zero (suc u) (omega (arith, turn.whole, turn.above)) l) (re (suc u) 0 (omega (arith, turn.whole, turn.above)) (omega (arith, turn.whole, turn.above)))) (subst P (line-low-im 0 t 0 own-zero (suc u) (omega (arith, turn.whole, turn.above)) l) (im (suc u) 0 (omega (arith, turn.whole, turn.above)) (omega (arith, turn.whole, turn.above))))
        (subst P (line-low-re 0 t (s.half + 0) own-half (suc u) (omega (arith, turn.whole, turn.above)) l) (re (suc u) (s.half + 0) (omega (arith, turn.whole, turn.above)) (omega (arith, turn.whole, turn.above)))) (subst P (line-low-im 0 t (s.half + 0) own-half (suc u) (omega (arith, turn.whole, turn.above)) l) (im (suc u) (s.half + 0) (omega (arith, turn.whole, turn.above)) (omega (arith, turn.whole, turn.above))))
    bins-each-of (suc v) zero m l =
        four-each P _ _ _ _ none (subst P (own-re 0 t (suc v) (omega (arith, turn.whole, turn.above)) m 0 (omega (arith, turn.whole, turn.above)) own-zero) (re 0 (suc v) (omega (arith, turn.whole, turn.above)) (omega (arith, turn.whole, turn.above)))) (subst P (own-im 0 t (suc v) (omega (arith, turn.whole, turn.above)) m 0 (omega (arith, turn.whole, turn.above)) own-zero) (im 0 (suc v) (omega (arith, turn.whole, turn.above)) (omega (arith, turn.whole, turn.above))))
        (subst P (own-re 0 t (suc v) (omega (arith, turn.whole, turn.above)) m (s.half + 0) (omega (arith, turn.whole, turn.above)) own-half) (re (s.half + 0) (suc v) (omega (arith, turn.whole, turn.above)) (omega (arith, turn.whole, turn.above)))) (subst P (own-im 0 t (suc v) (omega (arith, turn.whole, turn.above)) m (s.half + 0) (omega (arith, turn.whole, turn.above)) own-half) (im (s.half + 0) (suc v) (omega (arith, turn.whole, turn.above)) (omega (arith, turn.whole, turn.above))))
    bins-each-of (suc v) (suc u) m l =
        four-each P _ _ _ _ none (subst P (low-re 0 t (suc v) (omega (arith, turn.whole, turn.above)) m (suc u) (omega (arith, turn.whole, turn.above)) l) (re (suc u) (suc v) (omega (arith, turn.whole, turn.above)) (omega (arith, turn.whole, turn.above)))) (subst P (low-im 0 t (suc v) (omega (arith, turn.whole, turn.above)) m (suc u) (omega (arith, turn.whole, turn.above)) l) (im (suc u) (suc v) (omega (arith, turn.whole, turn.above)) (omega (arith, turn.whole, turn.above))))
        (subst P (high-re 0 t (suc v) (omega (arith, turn.whole, turn.above)) m (suc u) (omega (arith, turn.whole, turn.above)) l) (re (s.side - suc u) (suc v) (omega (arith, turn.whole, turn.above)) (omega (arith, turn.whole, turn.above)))) (subst P (high-im 0 t (suc v) (omega (arith, turn.whole, turn.above)) m (suc u) (omega (arith, turn.whole, turn.above)) l) (im (s.side - suc u) (suc v) (omega (arith, turn.whole, turn.above)) (omega (arith, turn.whole, turn.above))))

-- ---- side 16

pub bins-each : (t : ℕ → ℕ → ℤ) (P : ℤ → Type 0) → P (pos 0) → ((u v : ℕ) → u < 16 → v < 9 → P (tile_re t u v)) → ((u v : ℕ) → u < 16 → v < 9 → P (tile_im t u v)) → (v u : ℕ) → v < 8 → u < 8 → (i : ℕ) → P (get_or (two_bins t v u) i (pos 0))
unfolding side16
bins-each = bins-each-of turns16
