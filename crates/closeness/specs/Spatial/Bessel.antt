-- How much the transform can lengthen: Bessel's inequality for one line of complex numbers, and from it for a tile, forth and back.
use Rattle.std.specs.Prelude.{◌≡◌, ◌∷◌, ◌*◌, ◌+ℤ◌, ◌-ℤ◌, ◌*ℤ◌, ◌≤ℤ◌}
use Rattle.closeness.specs.Spatial.Prelude.{sym, ap, ap₂, subst, [], ℕ, ℤ, pos, neg_ℤ, subst₂, vars4, vars5, var, ◌⊞◌, ◌⊟◌, ◌⊠◌, #◌, ring, zarith, 0≤pos, sq, sum_z, Side, cos_at, sin_at, row_re, row_im, bin_re, bin_im, inverse_re}
use Rattle.algebra.specs.Cert.{nn, le, sqr, ◌⊕◌, ◌⊗◌, by_le}
use Rattle.algebra.specs.SumLaws.{sum_z-cong, sum_z-scale, sum_z-exchange}
use Rattle.algebra.specs.SumOrder.{sum_z-mono}
use Rattle.recipe.specs.CorrectionLaws.{along_re, along_im, two-way}
use Rattle.closeness.specs.Spatial.Lengths.{tile_sum, Length, squares, moduli}

-- the sums of a + i·b with the factors c k j + i·t k j: their squares are at most `gain` times those of a + i·b
pub record Bessel (n gain : ℕ) (c t : ℕ → ℕ → ℤ) : Type 0 where
  pub line : (a b : ℕ → ℤ) → sum_z n (λ k. sq (sum_z n (λ j. a j *ℤ c k j -ℤ b j *ℤ t k j)) +ℤ sq (sum_z n (λ j. a j *ℤ t k j +ℤ b j *ℤ c k j))) ≤ℤ (pos gain *ℤ sum_z n (λ j. sq (a j) +ℤ sq (b j)))

-- the factors of the inverse, and those of the transform
pub record Gain (s : Side) (gain : ℕ) : Type 0 where
  pub back : Bessel s.side gain (λ k j. cos_at s (j * k)) (λ k j. sin_at s (j * k))
  pub forth : Bessel s.side gain (λ k j. cos_at s (k * j)) (λ k j. neg_ℤ (sin_at s (k * j)))

-- two passes, from q by rows to m, and from m by columns to f
passes : (n gain : ℕ) (f m q : ℕ → ℕ → ℤ) → ((x : ℕ) → sum_z n (f x) ≤ℤ (pos gain *ℤ sum_z n (m x))) → ((u : ℕ) → sum_z n (λ x. m x u) ≤ℤ (pos gain *ℤ sum_z n (q u))) →
    sum_z n (λ x. sum_z n (f x)) ≤ℤ (pos gain *ℤ (pos gain *ℤ sum_z n (λ u. sum_z n (q u))))
passes n gain f m q h h' =
    let (G, A, B, C) = vars4 in
    by_le (pos gain ∷ sum_z n (λ x. sum_z n (f x)) ∷ sum_z n (λ x. sum_z n (m x)) ∷ sum_z n (λ u. sum_z n (q u)) ∷ []) A (G ⊠ (G ⊠ C))
    (le A (G ⊠ B) (subst (λ t. sum_z n (λ x. sum_z n (f x)) ≤ℤ t) (sum_z-scale n (pos gain) (λ x. sum_z n (m x))) (sum_z-mono n _ _ (λ x i. h x)))
    ⊕ nn G (0≤pos gain) ⊗ le B (G ⊠ C) (subst₂ ◌≤ℤ◌ (sym (sum_z-exchange n n m)) (sum_z-scale n (pos gain) (λ u. sum_z n (q u))) (sum_z-mono n _ _ (λ u i. h' u)))) tt

-- a line of real numbers
real : {n gain : ℕ} {c t : ℕ → ℕ → ℤ} → Bessel n gain c t → (a : ℕ → ℤ) → sum_z n (λ k. sq (sum_z n (λ j. a j *ℤ c k j)) +ℤ sq (sum_z n (λ j. a j *ℤ t k j))) ≤ℤ (pos gain *ℤ sum_z n (λ j. sq (a j)))
real {n} {gain} {c} {t} h a =
    subst₂ ◌≤ℤ◌
    (sum_z-cong n _ _
    (λ k i. ap₂ (λ p q. sq p +ℤ sq q)
    (sum_z-cong n _ (λ j. a j *ℤ c k j) (λ j l. ring (a j ∷ c k j ∷ t k j ∷ []) (var 0 ⊠ var 1 ⊟ # 0 ⊠ var 2) (var 0 ⊠ var 1) tt))
    (sum_z-cong n _ (λ j. a j *ℤ t k j) (λ j l. ring (a j ∷ c k j ∷ t k j ∷ []) (var 0 ⊠ var 2 ⊞ # 0 ⊠ var 1) (var 0 ⊠ var 2) tt))))
    (ap (λ z. pos gain *ℤ z) (sum_z-cong n _ (λ j. sq (a j)) (λ j l. ring (a j ∷ []) (var 0 ⊠ var 0 ⊞ # 0 ⊠ # 0) (var 0 ⊠ var 0) tt)))
    (h.line a (λ j. pos 0))

trans : {a b c : ℤ} → a ≤ℤ b → b ≤ℤ c → a ≤ℤ c
trans {a} {b} {c} h k = omega zarith

more : (a b c : ℤ) → a ≡ b → sq a ≤ℤ (sq b +ℤ sq c)
more a b c e = subst (λ t. sq t ≤ℤ (sq b +ℤ sq c)) (sym e) (by_le (b ∷ c ∷ []) (var 0 ⊠ var 0) (var 0 ⊠ var 0 ⊞ var 1 ⊠ var 1) (sqr (var 1)) tt)

-- a tile of that length, `gain` times over
longer : {n e d : ℕ} (gain : ℕ) (p q : ℕ → ℕ → ℤ) → tile_sum n p ≤ℤ (pos gain *ℤ (pos gain *ℤ tile_sum n q)) → Length n e d q → Length n (gain * e) d p
longer {n} {e} {d} gain p q h k =
    let (G, E, D, P, Q) = vars5 in
    record {
      length =
          by_le (pos gain ∷ pos e ∷ pos d ∷ tile_sum n p ∷ tile_sum n q ∷ []) (D ⊠ D ⊠ P) (G ⊠ E ⊠ (G ⊠ E))
          (sqr D ⊗ le P (G ⊠ (G ⊠ Q)) h ⊕ sqr G ⊗ le (D ⊠ D ⊠ Q) (E ⊠ E) k.length) tt;
    }

module _ {s : Side} {gain : ℕ} (h : Gain s gain) where
  columns : (g i : ℕ → ℕ → ℤ) (x : ℕ) → sum_z s.side (λ y. sq (inverse_re s g i y x)) ≤ℤ (pos gain *ℤ sum_z s.side (λ u. sq (along_re s g i x u) +ℤ sq (along_im s g i x u)))
  columns g i x =
      trans
      (sum_z-mono s.side _ _
      (λ y j. more (inverse_re s g i y x) (sum_z s.side (λ u. along_re s g i x u *ℤ cos_at s (u * y) -ℤ along_im s g i x u *ℤ sin_at s (u * y))) (sum_z s.side (λ u. along_re s g i x u *ℤ sin_at s (u * y) +ℤ along_im s g i x u *ℤ cos_at s (u * y))) (two-way s g i x y)))
      (h.back.line (along_re s g i x) (along_im s g i x))

  back-energy : (g i : ℕ → ℕ → ℤ) → tile_sum s.side (squares (inverse_re s g i)) ≤ℤ (pos gain *ℤ (pos gain *ℤ tile_sum s.side (moduli g i)))
  unfolding tile_sum along_re along_im
  back-energy g i =
      subst (λ t. t ≤ℤ (pos gain *ℤ (pos gain *ℤ sum_z s.side (λ u. sum_z s.side (moduli g i u))))) (sym (sum_z-exchange s.side s.side (squares (inverse_re s g i))))
      (passes s.side gain (λ x y. sq (inverse_re s g i y x)) (λ x u. sq (along_re s g i x u) +ℤ sq (along_im s g i x u)) (moduli g i) (columns g i) (λ u. h.back.line (g u) (i u)))

  forth-energy : (f : ℕ → ℕ → ℤ) → tile_sum s.side (moduli (bin_re s f) (bin_im s f)) ≤ℤ (pos gain *ℤ (pos gain *ℤ tile_sum s.side (squares f)))
  unfolding tile_sum bin_re bin_im row_re row_im
  forth-energy f =
      subst (λ t. t ≤ℤ (pos gain *ℤ (pos gain *ℤ sum_z s.side (λ y. sum_z s.side (squares f y))))) (sym (sum_z-exchange s.side s.side (moduli (bin_re s f) (bin_im s f))))
      (passes s.side gain (λ v u. sq (bin_re s f u v) +ℤ sq (bin_im s f u v)) (λ v y. sq (row_re s f y v) +ℤ sq (row_im s f y v)) (squares f) (λ v. h.forth.line (λ y. row_re s f y v) (λ y. row_im s f y v)) (λ y. real h.forth (f y)))

  pub back-length : {e d : ℕ} (g i : ℕ → ℕ → ℤ) → Length s.side e d (moduli g i) → Length s.side (gain * e) d (squares (inverse_re s g i))
  back-length g i = longer gain (squares (inverse_re s g i)) (moduli g i) (back-energy g i)

  pub forth-length : {e d : ℕ} (f : ℕ → ℕ → ℤ) → Length s.side e d (squares f) → Length s.side (gain * e) d (moduli (bin_re s f) (bin_im s f))
  forth-length f = longer gain (moduli (bin_re s f) (bin_im s f)) (squares f) (forth-energy f)
