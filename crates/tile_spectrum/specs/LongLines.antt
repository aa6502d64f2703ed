-- The laws of lines, folds and corrections that a pair of tiles of side 32 asks for (request L8), under the names that they have for side 16.
use Rattle.std.specs.Prelude.{◌≡◌, ◌+◌, ◌-◌, ◌*◌, ◌%◌, ◌≤◌, ◌<◌, ◌*ℤ◌}
use Rattle.tile_spectrum.specs.Prelude.{refl, ap, ◌∙◌, cond, List, ℕ, arith, eqb, ltb, get_or, ℤ, pos, nat_abs, tab, Side, cos_at, cosines32, cosine32, side32, Rules, half_z, basis_of, halfcomplex_of, backward_of, half_sum_of}
use Rattle.algebra.specs.Order.{abs-add, abs-sub, abs-mul-le}
use Rattle.algebra.specs.SumLaws.{abs-sum-bound}
use Rattle.sequences.specs.TabLaws.{get_d-tab}
use Rattle.sequences.specs.Grid.{tab-ext}
use Rattle.recipe.specs.TableLaws32.{rules32}
use Rattle.tile_spectrum.specs.Lines.HalfSumLaws.{basis-most, twice_half}
use Rattle.tile_spectrum.specs.Lines.SideFolds.{line-ext}
use Rattle.tile_spectrum.specs.Spectrum.{fold_re_of, fold_im_of, spread_of}
use Rattle.tile_spectrum.specs.Apart.{cond_cases, side-cases}

-- ---- lines of any side

module _ {s : Side} (r : Rules s) (b : ℕ) (f : ℕ → ℤ) (h : (i : ℕ) → nat_abs (f i) ≤ b) where
  side-halfcomplex-most : (k : ℕ) → nat_abs (halfcomplex_of s f k) ≤ s.side * (b * 16384)
  unfolding halfcomplex_of
  side-halfcomplex-most k = abs-sum-bound s.side (b * 16384) (λ i. f i *ℤ basis_of s k i) (λ i l. abs-mul-le (f i) (basis_of s k i) (h i) (basis-most r k i))

-- ---- lines of thirty-two

module _ (b : ℕ) (f : ℕ → ℤ) (h : (i : ℕ) → nat_abs (f i) ≤ b) where
  pub halfcomplex-most : (k : ℕ) → nat_abs (halfcomplex_of side32 f k) ≤ 32 * (b * 16384)
  unfolding side32
  halfcomplex-most = side-halfcomplex-most rules32 b f h

pub halfcomplex-ext : (f g : ℕ → ℤ) → ((i : ℕ) → i < 32 → f i ≡ g i) → (k : ℕ) → halfcomplex_of side32 f k ≡ halfcomplex_of side32 g k
unfolding side32
halfcomplex-ext f g h = line-ext side32 f g h

pub halfcomplex-line : {x : List ℤ} (f : ℕ → ℤ) → x ≡ tab 32 f → tab 32 (halfcomplex_of side32 (λ n. get_or x n (pos 0))) ≡ tab 32 (halfcomplex_of side32 f)
halfcomplex-line f e = tab-ext 32 _ _ (λ k h. halfcomplex-ext _ f (λ i l. ap (λ x. get_or x i (pos 0)) e ∙ get_d-tab f (pos 0) 32 i l) k)

pub half-sum : (z : ℕ → ℤ) (n : ℕ) → pos 2 *ℤ half_sum_of side32 z n ≡ backward_of side32 (λ k. cond (eqb (k % 16) 0) (z k) (pos 2 *ℤ z k)) n
unfolding half_z cos_at side32 cosine32 cosines32
half-sum = twice_half rules32 refl

-- how large the numbers of the folded G are, of any side
module _ (s : Side) (b : ℕ) where
  abbrev Twice : ℤ → Type 0
  Twice z = nat_abs z ≤ 2 * b

  module _ (g h : ℕ → ℤ) (p : (u : ℕ) → nat_abs (g u) ≤ b) (q : (u : ℕ) → nat_abs (h u) ≤ b) (i : ℕ) where
    fold-re-most : Twice (fold_re_of s g h i)
    unfolding fold_re_of
    fold-re-most =
        side-cases s i (g i) _ Twice (omega (arith, p i))
        (cond_cases Twice (ltb i (s.half + 1)) (omega (arith, abs-add (g i) (g (s.side - i)), p i, p (s.side - i))) (omega (arith, abs-sub (h (i - s.half)) (h (s.side + s.half - i)), q (i - s.half), q (s.side + s.half - i))))

    fold-im-most : Twice (fold_im_of s g h i)
    unfolding fold_im_of
    fold-im-most =
        side-cases s i (h i) _ Twice (omega (arith, q i))
        (cond_cases Twice (ltb i (s.half + 1)) (omega (arith, abs-add (h i) (h (s.side - i)), q i, q (s.side - i))) (omega (arith, abs-sub (g (s.side + s.half - i)) (g (i - s.half)), p (s.side + s.half - i), p (i - s.half))))

  spread-within : (g h : ℕ → ℕ → ℤ) → ((u v : ℕ) → nat_abs (g u v) ≤ b) → ((u v : ℕ) → nat_abs (h u v) ≤ b) → (k i : ℕ) → nat_abs (spread_of s g h k i) ≤ 2 * b
  unfolding spread_of
  spread-within g h p q k i =
      cond_cases (λ (f : ℕ → ℤ). Twice (f i)) (ltb k (s.half + 1))
      (fold-re-most (λ u. g u k) (λ u. h u k) (λ u. p u k) (λ u. q u k) i)
      (fold-im-most (λ u. g u (k - s.half)) (λ u. h u (k - s.half)) (λ u. p u (k - s.half)) (λ u. q u (k - s.half)) i)

pub spread-most : (b : ℕ) (g h : ℕ → ℕ → ℤ) → ((u v : ℕ) → nat_abs (g u v) ≤ b) → ((u v : ℕ) → nat_abs (h u v) ≤ b) → (k i : ℕ) → nat_abs (spread_of side32 g h k i) ≤ 2 * b
spread-most = spread-within side32
