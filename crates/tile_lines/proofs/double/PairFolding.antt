-- Two lines side by side, folded in double: the sums and differences that the code stores, and the places of each line.
use Rattle.std.specs.Prelude.{◌≡◌, ◌+◌, ◌*◌, ◌≤◌, ◌+ℤ◌, ◌-ℤ◌}
use Rattle.tile_lines.specs.Double.Prelude.{ap, ap₂, ◌∙◌, List, ℕ, arith, ℤ, nat_abs, w32, to_z, of_z, Float, binary64, of_int, add, sub, side16, halfcomplex, folded}
use Rattle.algebra.specs.Order.{abs-add, abs-sub}
use Rattle.sequences.specs.Grid.{tab-ext}
use Rattle.recipe.specs.TableLaws.{rules16}
use Rattle.tile_spectrum.specs.Lines.Lines.{LineMost}
use Rattle.tile_spectrum.specs.Lines.Doubles.{double_line}
use Rattle.tile_spectrum.specs.Lines.Magnitudes.{pair_line_most, pair_sum_most}
use Rattle.tile_spectrum.specs.Lines.Held.{of, held-is}
use Rattle.tile_spectrum.specs.Lines.PairLines.{pair-even, pair-odd}
use Rattle.tile_spectrum.specs.Lines.DoubleForms.{sum-exact, difference-exact}

-- the sum and the difference of two numbers half a line apart
abbrev pub sums_of : List ℤ → ℕ → ℤ
sums_of x i = of x i +ℤ of x (i + 16)

abbrev pub differences_of : List ℤ → ℕ → ℤ
differences_of x i = of x i -ℤ of x (i + 16)

-- line p
abbrev pub line_of : List ℤ → ℕ → ℕ → ℤ
line_of x p n = of x (2 * n + p)

-- as the code works them out
module _ {x : List ℤ} (m : LineMost pair_line_most x) (i : ℕ) where
  abbrev held : ℕ → Float
  held i = of_int binary64 (to_z w32 (of_z w32 (of x i)))

  held-are : (f : Float → Float → Float) → f (held i) (held (i + 16)) ≡ f (of_int binary64 (of x i)) (of_int binary64 (of x (i + 16)))
  held-are f = ap₂ (λ a b. f (of_int binary64 a) (of_int binary64 b)) (held-is w32 m i tt) (held-is w32 m (i + 16) tt)

  pub pair-sum : add binary64 (held i) (held (i + 16)) ≡ of_int binary64 (sums_of x i)
  pair-sum = held-are (add binary64) ∙ sum-exact (of x i) (of x (i + 16)) (omega (arith, m.at i)) (omega (arith, m.at (i + 16)))

  pub pair-difference : sub binary64 (held i) (held (i + 16)) ≡ of_int binary64 (differences_of x i)
  pair-difference = held-are (sub binary64) ∙ difference-exact (of x i) (of x (i + 16)) (omega (arith, m.at i)) (omega (arith, m.at (i + 16)))

  pub sums_most : nat_abs (sums_of x i) ≤ pair_sum_most
  sums_most = omega (arith, abs-add (of x i) (of x (i + 16)), m.at i, m.at (i + 16))

  pub differences-most : nat_abs (differences_of x i) ≤ pair_sum_most
  differences-most = omega (arith, abs-sub (of x i) (of x (i + 16)), m.at i, m.at (i + 16))

-- the places of line p, from its sums and from its differences
module _ (x : List ℤ) (p : ℕ) where
  pub even-line : double_line 8 (λ i. folded (λ n. sums_of x (2 * n + p)) (2 * i)) ≡ double_line 8 (λ i. halfcomplex (line_of x p) (2 * i))
  unfolding side16
  even-line = tab-ext 8 _ _ (λ i l. ap (of_int binary64) (pair-even rules16 (of x) p i))

  pub odd-line : double_line 8 (λ i. folded (λ n. differences_of x (2 * n + p)) (2 * i + 1)) ≡ double_line 8 (λ i. halfcomplex (line_of x p) (2 * i + 1))
  unfolding side16
  odd-line = tab-ext 8 _ _ (λ i l. ap (of_int binary64) (pair-odd rules16 (of x) p i))
