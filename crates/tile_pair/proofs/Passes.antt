-- The two passes of the transform, and those of the inverse, on a pair.
use Rattle.std.specs.Prelude.{◌≡◌, ◌/◌, ◌%◌, ◌^◌, ◌≤◌, ◌+ℤ◌}
use Rattle.tile_pair.specs.Prelude.{sym, subst, Bool, true, false, List, ℕ, arith, lit≤, ℤ, pos, nat_abs, Float, away, halfcomplex, backward, half_sum, difference_most, pair_line_most, fold_most, column_most, TileMost, side16, two_way, transposed, back_sum, InDouble, plane_in, side_by_side, doubles}
use native.Mathlib.Nat.{le_trans}
use Rattle.sequences.specs.Grid.{grid, cell}
use Rattle.tile_spectrum.specs.Lines.HalfSumLaws.{half-sum}
use Rattle.tile_spectrum.specs.Turns.{turns16}
use Rattle.tile_spectrum.specs.PassLaws.{grid-most, both-ways-of, back-is-of}
use Rattle.tile_spectrum.specs.Lines.BackSizes.{backward-most}
use Rattle.tile_spectrum.specs.LineLaws.{halfcomplex-most}

-- the columns' transforms a
module _ (d : ℕ → ℕ → ℤ) {a : List (List ℤ)} (p : a ≡ grid 16 32 (λ b l. halfcomplex (λ y. d y l) b)) where
  pub columns-small : ((y l : ℕ) → nat_abs (d y l) ≤ difference_most) → TileMost pair_line_most a
  columns-small m =
      subst (TileMost pair_line_most) (sym p)
      (grid-most 16 32 pair_line_most _ (λ b l. le_trans (halfcomplex-most difference_most (λ y. d y l) (λ y. m y l) b) (lit≤ tt)))

  -- and theirs along the rows
  pub both_ways : doubles (side_by_side (λ p b. halfcomplex (plane_in (cell (pos 0) a) p b))) ≡ doubles (side_by_side (λ p. transposed (two_way (plane_in d p))))
  unfolding doubles side16
  both_ways = both-ways-of turns16 d p

-- ---- the inverse

-- the sums back down the columns
pub fold-most : (low : Bool) (n : ℕ) → n ≤ fold_most low → n ≤ fold_most false
fold-most true n h = omega (arith, h)
fold-most false n h = h

abbrev pub any_fold : (low : Bool) {g : List (List Float)} → InDouble (fold_most low) g → InDouble (fold_most false) g
any_fold low w = record { number = w.number; most = λ y l. fold-most low (nat_abs (w.number y l)) (w.most y l); is = w.is }

abbrev pub columns_whole : (low : Bool) {g a : List (List Float)} → ((w : InDouble (fold_most false) g) → a ≡ doubles (λ y l. backward (λ b. w.number b l) y)) → InDouble (fold_most low) g → InDouble (column_most low) a
columns_whole low f w = record {
  number = λ y l. backward (λ b. w.number b l) y;
  most = λ y l. backward-most (λ b. w.number b l) (λ b. w.most b l) y;
  is = f (any_fold low w);
}

-- and P of their halves along the rows, added to the tile t
pub back_is : (s : ℕ → ℕ → ℤ) (t : List (List ℤ)) → grid 16 32 (λ y l. cell (pos 0) t y l +ℤ away (half_sum (plane_in (λ y l. backward (λ b. s b l) y) (l % 2) y) (l / 2)) (2 ^ 31)) ≡ grid 16 32 (λ y l. cell (pos 0) t y l +ℤ away (back_sum (transposed (plane_in s (l % 2))) y (l / 2)) (2 ^ 32))
unfolding side16
back_is = back-is-of side16 half-sum 16 32
