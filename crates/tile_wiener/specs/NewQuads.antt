-- A quad of G with quotients in double, by kind, from a quad of B, and where its quotients are certain.
use Rattle.std.specs.Prelude.{◌≡◌, ◌∷◌, ◌+◌, ◌/◌, ◌≤◌, ◌<◌}
use Rattle.tile_wiener.specs.Prelude.{refl, sym, ap, subst, ◌∙◌, List, [], ℕ, zero, suc, arith, get_or, pos, Float, nan, binary64, of_int, add, sub, gains_by, SureBy, real_gain_by, number_of, bins_in, folded_in, corner_in, fold_in}
use Rattle.tile_spectrum.specs.QuadLaws.{four, is-top, is-left, is-inner}
use Rattle.tile_quad.specs.QuadGains.{quad-corner, quad-others}
use Rattle.tile_wiener.specs.DoubleQuads.{double_quad, new_quad_by, SureQuadBy}

module _ (bits : ℕ) (v w : List Float) {q b : List Float} (e : q ≡ b) where
  -- at V and W of a lane
  abbrev gains : (l : ℕ) (x y : Float) → List Float
  gains l = gains_by bits (get_or v l nan) (get_or w l nan)

  abbrev real : (l i : ℕ) → Float
  real l i = real_gain_by bits (get_or v l nan) (get_or w l nan) (number_of q i)

  pub new-corner : (l : ℕ) → l < 2 → {x y z t : Float} → x ≡ real l 0 → y ≡ real l 1 → z ≡ real l 2 → t ≡ real l 3 → x ∷ y ∷ z ∷ t ∷ [] ≡ new_quad_by bits v w 0 l b
  unfolding new_quad_by double_quad corner_in
  new-corner l h x y z t = four x y z t ∙ sym (quad-corner _ _ (l / 2) 0 q (omega arith)) ∙ ap (new_quad_by bits v w 0 l) e

  module _ {g h : List Float} where
    pub new-left : (l : ℕ) → 2 ≤ l → g ≡ gains l (number_of q 0) (number_of q 2) → h ≡ gains l (number_of q 1) (number_of q 3) → number_of g 0 ∷ number_of h 0 ∷ number_of g 1 ∷ number_of h 1 ∷ [] ≡ new_quad_by bits v w 0 l b
    unfolding new_quad_by double_quad fold_in folded_in bins_in
    new-left l o i j =
        rw (i, j)
        (sym (quad-others _ _ (l / 2) 0 q (omega arith) ∙ ap (fold_in (gains l) (l / 2) 0) (is-left _ _ _ (l / 2) 0 (omega arith) refl) ∙ is-left _ _ _ (l / 2) 0 (omega arith) refl))
        ∙ ap (new_quad_by bits v w 0 l) e

    pub new-top : (u l : ℕ) → 0 < u → l < 2 → g ≡ gains l (number_of q 0) (number_of q 1) → h ≡ gains l (number_of q 2) (number_of q 3) → add binary64 (number_of g 0) (number_of g 0) ∷ add binary64 (number_of g 1) (number_of g 1) ∷ add binary64 (number_of h 0) (number_of h 0) ∷ add binary64 (number_of h 1) (number_of h 1) ∷ [] ≡ new_quad_by bits v w u l b
    unfolding new_quad_by double_quad fold_in folded_in bins_in
    new-top u l o k i j =
        rw (i, j)
        (sym (quad-others _ _ (l / 2) u q (omega arith) ∙ ap (fold_in (gains l) (l / 2) u) (is-top _ _ _ (l / 2) u (omega arith)) ∙ is-top _ _ _ (l / 2) u (omega arith)))
        ∙ ap (new_quad_by bits v w u l) e

    pub new-inner : (u l : ℕ) → 0 < u → 2 ≤ l → g ≡ gains l (sub binary64 (number_of q 0) (number_of q 3)) (add binary64 (number_of q 1) (number_of q 2)) → h ≡ gains l (add binary64 (number_of q 0) (number_of q 3)) (sub binary64 (number_of q 2) (number_of q 1)) → add binary64 (number_of g 0) (number_of h 0) ∷ sub binary64 (number_of g 1) (number_of h 1) ∷ add binary64 (number_of g 1) (number_of h 1) ∷ sub binary64 (number_of h 0) (number_of g 0) ∷ [] ≡ new_quad_by bits v w u l b
    unfolding new_quad_by double_quad fold_in folded_in bins_in
    new-inner u l o k i j =
        rw (i, j)
        (sym (quad-others _ _ (l / 2) u q (omega arith) ∙ ap (fold_in (gains l) (l / 2) u) (is-inner _ _ _ (l / 2) u (omega arith) o) ∙ is-inner _ _ _ (l / 2) u (omega arith) o))
        ∙ ap (new_quad_by bits v w u l) e

  -- ---- where the quotients are certain

  -- those of the bin x + i·y
  abbrev Certain : (l : ℕ) (x y : Float) → Type 0
  Certain l = SureBy bits (get_or v l nan) (get_or w l nan)

  abbrev CertainQuad : (u l : ℕ) → Type 0
  CertainQuad u l = SureQuadBy bits (get_or v l nan) (get_or w l nan) (l / 2) u b

  pub sure-corner : (l : ℕ) → l < 2 → Certain l (number_of q 0) (of_int binary64 (pos 0)) → Certain l (number_of q 1) (of_int binary64 (pos 0)) → Certain l (number_of q 2) (of_int binary64 (pos 0)) → Certain l (number_of q 3) (of_int binary64 (pos 0)) → CertainQuad 0 l
  unfolding bins_in
  sure-corner l h x y z t =
      subst (SureQuadBy bits (get_or v l nan) (get_or w l nan) (l / 2) 0) e
      (record { corner = λ c i o. subst (λ p. Certain l (number_of p i) (of_int binary64 (pos 0))) (sym (is-top _ _ _ (l / 2) 0 (omega arith))) (each i o); others = λ o. absurd (omega arith) })
    where
      each : (i : ℕ) → i < 4 → Certain l (number_of (number_of q 0 ∷ number_of q 1 ∷ number_of q 2 ∷ number_of q 3 ∷ []) i) (of_int binary64 (pos 0))
      each zero o = x
      each (suc zero) o = y
      each (suc (suc zero)) o = z
      each (suc (suc (suc zero))) o = t
      each (suc (suc (suc (suc i)))) o = absurd (omega arith)

  sure-others : (u l : ℕ) → 0 < l / 2 + u → {x y z t : Float} → bins_in (l / 2) u q ≡ x ∷ y ∷ z ∷ t ∷ [] → Certain l x y → Certain l z t → CertainQuad u l
  sure-others u l o f g h =
      subst (SureQuadBy bits (get_or v l nan) (get_or w l nan) (l / 2) u) e
      (record { corner = λ c. absurd (omega arith); others = λ o. (subst (λ p. Certain l (number_of p 0) (number_of p 1)) (sym f) g, subst (λ p. Certain l (number_of p 2) (number_of p 3)) (sym f) h) })

  pub sure-left : (l : ℕ) → 2 ≤ l → Certain l (number_of q 0) (number_of q 2) → Certain l (number_of q 1) (number_of q 3) → CertainQuad 0 l
  unfolding bins_in
  sure-left l o = sure-others 0 l (omega arith) (is-left _ _ _ (l / 2) 0 (omega arith) refl)

  pub sure-top : (u l : ℕ) → 0 < u → l < 2 → Certain l (number_of q 0) (number_of q 1) → Certain l (number_of q 2) (number_of q 3) → CertainQuad u l
  unfolding bins_in
  sure-top u l o k = sure-others u l (omega arith) (is-top _ _ _ (l / 2) u (omega arith))

  pub sure-inner : (u l : ℕ) → 0 < u → 2 ≤ l → Certain l (sub binary64 (number_of q 0) (number_of q 3)) (add binary64 (number_of q 1) (number_of q 2)) → Certain l (add binary64 (number_of q 0) (number_of q 3)) (sub binary64 (number_of q 2) (number_of q 1)) → CertainQuad u l
  unfolding bins_in
  sure-inner u l o k = sure-others u l (omega arith) (is-inner _ _ _ (l / 2) u (omega arith) o)
