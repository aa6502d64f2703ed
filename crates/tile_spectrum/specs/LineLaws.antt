-- The sums of a line against its basis: what they depend on, and how large they are.
use Rattle.std.specs.Prelude.{◌≡◌, ◌*◌, ◌≤◌, ◌<◌, ◌*ℤ◌}
use Rattle.tile_spectrum.specs.Prelude.{ap, ◌∙◌, List, ℕ, get_or, ℤ, pos, nat_abs, sum_z, tab, Side, side16, basis_of, halfcomplex_of, backward_of, basis, halfcomplex, backward}
use Rattle.algebra.specs.SumLaws.{sum_z-cong}
use Rattle.sequences.specs.TabLaws.{get_d-tab}
use Rattle.sequences.specs.Grid.{tab-ext}
use Rattle.recipe.specs.TableLaws.{rules16}
use Rattle.tile_spectrum.specs.Lines.HalfSumLaws.{basis-most}
use Rattle.tile_spectrum.specs.SizeLaws.{sum-most}

-- sixteen products, with whatever entries of the table
module _ (c : (i : ℕ) → ℤ) where
  abbrev sum : (f : ℕ → ℤ) → ℤ
  sum f = sum_z 16 (λ i. f i *ℤ c i)

  sum-ext : (f g : ℕ → ℤ) → ((i : ℕ) → i < 16 → f i ≡ g i) → sum f ≡ sum g
  sum-ext f g h = sum_z-cong 16 _ _ (λ i l. ap (λ z. z *ℤ c i) (h i l))

module _ (b : ℕ) (f : ℕ → ℤ) (h : (i : ℕ) → nat_abs (f i) ≤ b) where
  pub halfcomplex-most : (k : ℕ) → nat_abs (halfcomplex f k) ≤ 16 * (b * 16384)
  unfolding halfcomplex_of side16
  halfcomplex-most k = sum-most (basis k) b f (basis-most rules16 k) h

-- what the sum back depends on, for any side
pub back-line-ext : (s : Side) (f g : ℕ → ℤ) → ((i : ℕ) → i < s.side → f i ≡ g i) → (n : ℕ) → backward_of s f n ≡ backward_of s g n
unfolding backward_of
back-line-ext s f g h n = sum_z-cong s.side _ _ (λ k l. ap (λ z. z *ℤ basis_of s k n) (h k l))

module _ (f g : ℕ → ℤ) (h : (i : ℕ) → i < 16 → f i ≡ g i) where
  pub halfcomplex-ext : (k : ℕ) → halfcomplex f k ≡ halfcomplex g k
  unfolding halfcomplex_of side16
  halfcomplex-ext k = sum-ext (basis k) f g h

  pub backward-ext : (n : ℕ) → backward f n ≡ backward g n
  unfolding backward_of side16
  backward-ext n = sum-ext (λ k. basis k n) f g h

-- of a line x whose numbers are f's
module _ {x : List ℤ} (f : ℕ → ℤ) (e : x ≡ tab 16 f) where
  number : (i : ℕ) → i < 16 → get_or x i (pos 0) ≡ f i
  number i h = ap (λ l. get_or l i (pos 0)) e ∙ get_d-tab f (pos 0) 16 i h

  pub halfcomplex-line : tab 16 (halfcomplex (λ n. get_or x n (pos 0))) ≡ tab 16 (halfcomplex f)
  halfcomplex-line = tab-ext 16 _ _ (λ k h. halfcomplex-ext _ f number k)
