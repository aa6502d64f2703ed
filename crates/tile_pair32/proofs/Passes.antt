-- The two passes of the transform, and those of the inverse, on a pair.
use Rattle.std.specs.Prelude.{◌≡◌, ◌/◌, ◌%◌, ◌^◌, ◌≤◌, ◌+ℤ◌}
use Rattle.tile_pair32.specs.Prelude.{sym, subst, Bool, true, false, List, ℕ, arith, lit≤, ℤ, pos, nat_abs, Float, away, halfcomplex_of, backward_of, half_sum_of, difference_most, long_line_most, long_fold_most, long_column_most, TileMost, side32, two_way_of, transposed, back_sum_of, plane_in, side_by_side, LongInDouble, long_doubles}
use native.Mathlib.Nat.{le_trans}
use Rattle.sequences.specs.Grid.{grid, cell}
use Rattle.tile_spectrum.specs.Turns.{turns32}
use Rattle.tile_spectrum.specs.PassLaws.{grid-most, both-ways-of, back-is-of}
use Rattle.tile_spectrum.specs.Lines.BackSizes.{long-backward-most}
use Rattle.tile_spectrum.specs.LongLines.{half-sum, halfcomplex-most}

-- the columns' transforms a
module _ (d : ℕ → ℕ → ℤ) {a : List (List ℤ)} (p : a ≡ grid 32 64 (λ b l. halfcomplex_of side32 (λ y. d y l) b)) where
  pub columns-small : ((y l : ℕ) → nat_abs (d y l) ≤ difference_most) → TileMost long_line_most a
  columns-small m =
      subst (TileMost long_line_most) (sym p)
      (grid-most 32 64 long_line_most _ (λ b l. le_trans (halfcomplex-most difference_most (λ y. d y l) (λ y. m y l) b) (lit≤ tt)))

  -- and theirs along the rows
  pub both_ways : long_doubles (side_by_side (λ p b. halfcomplex_of side32 (plane_in (cell (pos 0) a) p b))) ≡ long_doubles (side_by_side (λ p. transposed (two_way_of side32 (plane_in d p))))
  unfolding long_doubles side32
  both_ways = both-ways-of turns32 d p

-- ---- the inverse

-- the sums back down the columns
pub fold-most : (low middle : Bool) (n : ℕ) → n ≤ long_fold_most low middle → n ≤ long_fold_most false false
fold-most true middle n h = omega (arith, h)
fold-most false true n h = omega (arith, h)
fold-most false false n h = h

abbrev pub any_fold : (low middle : Bool) {g : List (List Float)} → LongInDouble (long_fold_most low middle) g → LongInDouble (long_fold_most false false) g
any_fold low middle w = record { number = w.number; most = λ y l. fold-most low middle (nat_abs (w.number y l)) (w.most y l); is = w.is }

abbrev pub columns_whole : (low middle : Bool) {g a : List (List Float)} → ((w : LongInDouble (long_fold_most false false) g) → a ≡ long_doubles (λ y l. backward_of side32 (λ b. w.number b l) y)) → LongInDouble (long_fold_most low middle) g → LongInDouble (long_column_most low middle) a
columns_whole low middle f w = record {
  number = λ y l. backward_of side32 (λ b. w.number b l) y;
  most = λ y l. long-backward-most (λ b. w.number b l) (λ b. w.most b l) y;
  is = f (any_fold low middle w);
}

-- and P of their halves along the rows, added to the tile t
pub back_is : (s : ℕ → ℕ → ℤ) (t : List (List ℤ)) → grid 32 64 (λ y l. cell (pos 0) t y l +ℤ away (half_sum_of side32 (plane_in (λ y l. backward_of side32 (λ b. s b l) y) (l % 2) y) (l / 2)) (2 ^ 31)) ≡ grid 32 64 (λ y l. cell (pos 0) t y l +ℤ away (back_sum_of side32 (transposed (plane_in s (l % 2))) y (l / 2)) (2 ^ 32))
unfolding side32
back_is = back-is-of side32 half-sum 32 64
