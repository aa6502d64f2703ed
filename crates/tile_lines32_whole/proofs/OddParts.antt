-- The odd places of a line of thirty-two in parts: how large the parts are, that they are those of the differences as the code holds them, and that joined they are
-- the places.
use Rattle.std.specs.Prelude.{◌≡◌, ◌∷◌, ◌+◌, ◌*◌, ◌/◌, ◌%◌, ◌≤◌, ◌+ℤ◌, ◌-ℤ◌, ◌*ℤ◌}
use Rattle.tile_lines32_whole.specs.Prelude.{ap, ap₂, ◌∙◌, List, [], ℕ, ℤ, pos, nat_abs, to_z-of_z, w16, w32, SFits, to_z, of_z, sum_z, tab, cosines, cosine16, side16, cosines32, cosine32, side32, basis_of, frequency_of, phase_of, folded_of, halfcomplex_of, difference_of, difference_fold_most, of}
use Rattle.algebra.specs.Order.{abs-mul-le}
use Rattle.algebra.specs.Bound.{add-fits, sub-fits}
use Rattle.algebra.specs.Ring.{var, con, ◌⊞◌, ◌⊟◌, ◌⊠◌}
use Rattle.algebra.specs.SumLaws.{abs-sum-bound}
use Rattle.algebra.specs.Forms.{rings, sum_e}
use Rattle.sequences.specs.TabLaws.{get_d-tab}
use Rattle.sequences.specs.Grid.{tab-ext}
use Rattle.recipe.specs.Side.{Side, cos_at}
use Rattle.recipe.specs.TableRules.{Rules}
use Rattle.recipe.specs.TableLaws.{rules16}
use Rattle.recipe.specs.TableLaws32.{rules32}
use Rattle.tile_spectrum.specs.Lines.Lines.{LineMost}
use Rattle.tile_spectrum.specs.Lines.Tiles.{line-most}
use Rattle.tile_spectrum.specs.Lines.SideFolds.{odd-folded, folds-ext}
use Rattle.tile_spectrum.specs.Lines.HalfSumLaws.{basis-most}
use Rattle.tile_spectrum.specs.Lines.Held.{held-is, held-most}
use Rattle.tile_spectrum.specs.Lines.Picked.{held}
use Rattle.tile_lines32_whole.specs.Parts.{odd_part, InParts, part_most}

-- ---- the parts, of differences t

-- every second number, from number p on
abbrev pub seconds : ℕ → List ℕ
seconds p = (0 + p) ∷ (2 + p) ∷ (4 + p) ∷ (6 + p) ∷ (8 + p) ∷ (10 + p) ∷ (12 + p) ∷ (14 + p) ∷ []

part-most : {s : Side} → Rules s → {y : List ℤ} → LineMost difference_fold_most y → (k : ℕ) (p : ℕ → ℕ) → nat_abs (sum_z 8 (λ n. of y n *ℤ basis_of s k (p n))) ≤ part_most
part-most {s} r {y} m k p =
    abs-sum-bound 8 (difference_fold_most * 16384) (λ n. of y n *ℤ basis_of s k (p n)) (λ n h. abs-mul-le (of y n) (basis_of s k (p n)) (m.at n) (basis-most r k (p n)))

pub even-most : {y e : List ℤ} → LineMost difference_fold_most y → e ≡ tab 8 (λ i. folded_of side16 (of y) (2 * i + 1)) → LineMost part_most e
unfolding folded_of side16
even-most m q = rw q (line-most part_most _ (λ i. part-most rules16 m (2 * i + 1) (λ n. n)) 8)

pub odd-most : {y o : List ℤ} → LineMost difference_fold_most y → o ≡ tab 8 (odd_part (of y)) → LineMost part_most o
odd-most m q = rw q (line-most part_most _ (λ i. part-most rules32 m (2 * (i % 4) + 1 + 16 * (i / 4)) (λ n. 2 * n + 1)) 8)

module _ {t : List ℤ} (m : LineMost difference_fold_most t) where
  seconds-held : (p : ℕ) → held w16 t (seconds p) ≡ tab 8 (λ n. of t (2 * n + p))
  unfolding tab
  seconds-held p = rw (held-is w16 m (0 + p) tt, held-is w16 m (2 + p) tt, held-is w16 m (4 + p) tt, held-is w16 m (6 + p) tt, held-is w16 m (8 + p) tt, held-is w16 m (10 + p) tt, held-is w16 m (12 + p) tt, held-is w16 m (14 + p) tt)

  pub in_parts : {e o : List ℤ} → e ≡ tab 8 (λ i. folded_of side16 (of (held w16 t (seconds 0))) (2 * i + 1)) → o ≡ tab 8 (odd_part (of (held w16 t (seconds 1)))) → InParts (of t) e o
  unfolding tab folded_of sum_z side16
  in_parts p q =
      record {
        even = p ∙ ap (λ y. tab 8 (λ i. folded_of side16 (of y) (2 * i + 1))) (seconds-held 0);
        odd = q ∙ ap (λ y. tab 8 (odd_part (of y))) (seconds-held 1);
      }

-- ---- joined

abbrev joins : {A : Type 0} → (f g : A → A → A) (e o : ℕ → A) → List A
joins f g e o =
    f (e 0) (o 0) ∷ f (e 1) (o 1) ∷ f (e 2) (o 2) ∷ f (e 3) (o 3) ∷ g (e 3) (o 3) ∷ g (e 2) (o 2) ∷ g (e 1) (o 1) ∷ g (e 0) (o 0) ∷ f (e 4) (o 4) ∷ f (e 5) (o 5) ∷ f (e 6) (o 6) ∷ f (e 7) (o 7) ∷ g (o 7) (e 7) ∷ g (o 6) (e 6) ∷ g (o 5) (e 5) ∷ g (o 4) (e 4) ∷ []

abbrev held_at : List ℤ → ℕ → ℤ
held_at x i = to_z w32 (of_z w32 (of x i))

-- two parts as the code adds them and takes one from the other
module _ {a b : List ℤ} (m : LineMost part_most a) (n : LineMost part_most b) (i : ℕ) where
  pub sum_fits : SFits w32 (held_at a i +ℤ held_at b i)
  sum_fits = add-fits w32 (held_at a i) (held_at b i) part_most part_most (held-most w32 m i tt) (held-most w32 n i tt) tt

  pub difference-fits : SFits w32 (held_at a i -ℤ held_at b i)
  difference-fits = sub-fits w32 (held_at a i) (held_at b i) part_most part_most (held-most w32 m i tt) (held-most w32 n i tt) tt

  sum_is : to_z w32 (of_z w32 (held_at a i +ℤ held_at b i)) ≡ of a i +ℤ of b i
  sum_is = to_z-of_z sum_fits ∙ ap₂ ◌+ℤ◌ (held-is w32 m i tt) (held-is w32 n i tt)

  difference-is : to_z w32 (of_z w32 (held_at a i -ℤ held_at b i)) ≡ of a i -ℤ of b i
  difference-is = to_z-of_z difference-fits ∙ ap₂ ◌-ℤ◌ (held-is w32 m i tt) (held-is w32 n i tt)

module _ {e o : List ℤ} (m : LineMost part_most e) (n : LineMost part_most o) where
  read_is : joins (λ a b. to_z w32 (of_z w32 (a +ℤ b))) (λ a b. to_z w32 (of_z w32 (a -ℤ b))) (held_at e) (held_at o) ≡ joins ◌+ℤ◌ ◌-ℤ◌ (of e) (of o)
  read_is = rw (sum_is m n 0, sum_is m n 1, sum_is m n 2, sum_is m n 3, sum_is m n 4, sum_is m n 5, sum_is m n 6, sum_is m n 7, difference-is m n 0, difference-is m n 1, difference-is m n 2, difference-is m n 3, difference-is n m 4, difference-is n m 5, difference-is n m 6, difference-is n m 7)

  places-are : (z : ℕ → ℤ) → InParts z e o → joins ◌+ℤ◌ ◌-ℤ◌ (of e) (of o) ≡ tab 16 (λ i. folded_of side32 z (2 * i + 1))
  unfolding tab sum_z folded_of basis_of frequency_of phase_of cos_at side16 cosine16 cosines side32 cosine32 cosines32
  places-are z w =
      rw (w.even, w.odd)
      (rings (tab 16 z) (joins ◌⊞◌ ◌⊟◌ (λ i. sum_e 8 (λ n. var (2 * n) ⊠ con (basis_of side16 (2 * i + 1) n))) (λ i. sum_e 8 (λ n. var (2 * n + 1) ⊠ con (basis_of side32 (2 * (i % 4) + 1 + 16 * (i / 4)) (2 * n + 1))))) (tab 16 (λ i. sum_e 16 (λ n. var n ⊠ con (basis_of side32 (2 * i + 1) n)))) tt)

  pub joined_is : (z : ℕ → ℤ) → InParts z e o → joins (λ a b. to_z w32 (of_z w32 (a +ℤ b))) (λ a b. to_z w32 (of_z w32 (a -ℤ b))) (held_at e) (held_at o) ≡ tab 16 (λ i. folded_of side32 z (2 * i + 1))
  joined_is z w = read_is ∙ places-are z w

-- of the differences of a line x, they are its odd places
pub differences-places : (x : ℕ → ℤ) {t : List ℤ} → t ≡ tab 16 (difference_of side32 x) → tab 16 (λ i. folded_of side32 (of t) (2 * i + 1)) ≡ tab 16 (λ i. halfcomplex_of side32 x (2 * i + 1))
unfolding side32
differences-places x e = tab-ext 16 _ _ (λ i l. folds-ext side32 _ _ (λ n h. ap (λ t. of t n) e ∙ get_d-tab (difference_of side32 x) (pos 0) 16 n h) (2 * i + 1) ∙ odd-folded rules32 x i)
