-- Quads of G with quotients in whole numbers, by kind, from the parts of the bins of a quad of B; they have four numbers.
use Rattle.std.specs.Prelude.{◌≡◌, ◌∷◌, ◌+◌, ◌/◌, ◌%◌, ◌<◌}
use Rattle.tile_wiener_exact.specs.Prelude.{refl, sym, ap, ap₂, subst, ◌∙◌, List, [], ℕ, zero, suc, arith, eqb, pos, Float, binary64, of_int, either, exact_gains_by, number_of, bins_in, folded_in, corner_in, fold_in, quad_in}
use Rattle.tile_spectrum.specs.Spectrum.{by_kind}
use Rattle.tile_spectrum.specs.Lines.Doubles.{WholeDouble}
use Rattle.tile_spectrum.specs.QuadLaws.{four, is-top}
use Rattle.tile_spectrum.specs.Apart.{cond_cases}
use Rattle.tile_quad.specs.Lanes.{WholeBinsOf}
use Rattle.tile_quad.specs.QuadGains.{quad-corner, quad-others}
use Rattle.tile_wiener_exact.specs.ExactQuads.{exact_quad_by, new_exactly_by}

-- b holds the parts of the bins of the quad q
pub whole_part : {m k u : ℕ} {q b : List Float} → WholeBinsOf m k u q → b ≡ bins_in k u q → (i : ℕ) → i < 4 → WholeDouble m (number_of b i)
whole_part {m} w e i h = subst (λ b. WholeDouble m (number_of b i)) (sym e) (w.at i h)

module _ (bits noise k u : ℕ) (q : List Float) {b : List Float} (e : b ≡ bins_in k u q) where
  -- G of a real bin
  abbrev real : List Float → ℕ → Float
  real b i = number_of (exact_gains_by bits noise (number_of b i) (of_int binary64 (pos 0))) 0

  pub exact-corner : k + u ≡ 0 → {x y z t : Float} → x ≡ real b 0 → y ≡ real b 1 → z ≡ real b 2 → t ≡ real b 3 → x ∷ y ∷ z ∷ t ∷ [] ≡ exact_quad_by bits noise k u q
  unfolding exact_quad_by corner_in bins_in
  exact-corner o x y z t =
      let d = e ∙ is-top _ _ _ k u (omega arith) in
      let at : (i : ℕ) → real b i ≡ real (number_of q 0 ∷ number_of q 1 ∷ number_of q 2 ∷ number_of q 3 ∷ []) i = λ i. ap (λ b. real b i) d in
      four (x ∙ at 0) (y ∙ at 1) (z ∙ at 2) (t ∙ at 3) ∙ sym (quad-corner _ _ k u q o)

  pub exact-others : 0 < k + u → {g h r : List Float} → g ≡ exact_gains_by bits noise (number_of b 0) (number_of b 1) → h ≡ exact_gains_by bits noise (number_of b 2) (number_of b 3) → r ≡ folded_in k u (number_of g 0) (number_of g 1) (number_of h 0) (number_of h 1) → r ≡ exact_quad_by bits noise k u q
  unfolding exact_quad_by fold_in
  exact-others o i j f =
      f ∙ ap₂ (λ g h. folded_in k u (number_of g 0) (number_of g 1) (number_of h 0) (number_of h 1)) i j
      ∙ ap (fold_in (exact_gains_by bits noise) k u) e ∙ sym (quad-others _ _ k u q o)

abbrev Four : List Float → Type 0
Four q = number_of q 0 ∷ number_of q 1 ∷ number_of q 2 ∷ number_of q 3 ∷ [] ≡ q

folded-four : (k u : ℕ) (a b c d : Float) → Four (folded_in k u a b c d)
unfolding folded_in by_kind
folded-four zero u a b c d = refl
folded-four (suc k) zero a b c d = refl
folded-four (suc k) (suc u) a b c d = refl

exact-four : (bits noise k u : ℕ) (q : List Float) → Four (exact_quad_by bits noise k u q)
unfolding exact_quad_by quad_in corner_in fold_in
exact-four bits noise k u q = cond_cases Four (eqb (k + u) 0) refl (folded-four k u _ _ _ _)

pub new-exactly : (bits : ℕ) {noise : ℕ} (first second u l : ℕ) (q : List Float) → noise ≡ either first second (l % 2) → {r : List Float} → r ≡ exact_quad_by bits noise (l / 2) u q → number_of r 0 ∷ number_of r 1 ∷ number_of r 2 ∷ number_of r 3 ∷ [] ≡ new_exactly_by bits first second u l q
unfolding new_exactly_by
new-exactly bits {noise} first second u l q n e = rw e (exact-four bits noise (l / 2) u q) ∙ ap (λ m. exact_quad_by bits m (l / 2) u q) n
