-- Numbers as the code holds them.
use Rattle.std.specs.Prelude.{◌≡◌, ◌∷◌, ◌^◌}
use Rattle.algebra.specs.Prelude.{refl, sym, subst, ◌∙◌, List, [], ℕ, zero, suc, T, ltb, get_or, ℤ, pos, to_z-of_z}
use Rattle.tile_spectrum.specs.Lines.Prelude.{Width, SFits, to_z, of_z, hbits, nth}
use Rattle.algebra.specs.Bound.{AtMost, most_fits}
use Rattle.tile_spectrum.specs.Lines.Lines.{LineMost}

-- a number of at most b
pub number_is : (w : Width) {b : ℕ} {z : ℤ} → AtMost b z → T (ltb b (2 ^ hbits w)) → to_z w (of_z w z) ≡ z
number_is w {b} {z} m t = to_z-of_z (most_fits w z b m t)

pub number-most : (w : Width) {b : ℕ} {z : ℤ} → AtMost b z → T (ltb b (2 ^ hbits w)) → AtMost b (to_z w (of_z w z))
number-most w {b} m t = subst (AtMost b) (sym (number_is w m t)) m

-- a number of at most b from width w in width w'
module _ (w w' : Width) {b : ℕ} {z : ℤ} (m : AtMost b z) (t : T (ltb b (2 ^ hbits w))) (t' : T (ltb b (2 ^ hbits w'))) where
  pub cast_fits : SFits w' (to_z w (of_z w z))
  cast_fits = most_fits w' (to_z w (of_z w z)) b (number-most w m t) t'

  pub cast_is : to_z w' (of_z w' (to_z w (of_z w z))) ≡ z
  cast_is = number_is w' (number-most w m t) t' ∙ number_is w m t

-- number n of a line
abbrev pub of : List ℤ → ℕ → ℤ
of l n = get_or l n (pos 0)

pub nth-is : (x : List ℤ) (i : ℕ) → nth x i ≡ get_or x i (pos 0)
nth-is [] i = refl
nth-is (a ∷ x) zero = refl
nth-is (a ∷ x) (suc i) = nth-is x i

-- and its bound
pub line_at : {b : ℕ} {x : List ℤ} → LineMost b x → (j : ℕ) → AtMost b (get_or x j (pos 0))
line_at m j = record { most = m.at j }

module _ (w : Width) {b : ℕ} {x : List ℤ} (m : LineMost b x) (j : ℕ) (t : T (ltb b (2 ^ hbits w))) where
  pub held-is : to_z w (of_z w (get_or x j (pos 0))) ≡ get_or x j (pos 0)
  held-is = number_is w (line_at m j) t

  pub held-most : AtMost b (to_z w (of_z w (get_or x j (pos 0))))
  held-most = number-most w (line_at m j) t
