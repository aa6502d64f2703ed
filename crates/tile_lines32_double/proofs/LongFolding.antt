-- Two lines of thirty-two side by side, folded in double: the sums and differences that the code stores, and the places of each line.
use Rattle.std.specs.Prelude.{◌≡◌, ◌+◌, ◌*◌, ◌/◌, ◌%◌, ◌≤◌, ◌<◌, ◌+ℤ◌, ◌-ℤ◌}
use Rattle.tile_lines32_double.specs.Prelude.{ap, ap₂, ◌∙◌, cond, List, ℕ, arith, eqb, get_or, set, ℤ, nat_abs, w32, to_z, of_z, Float, nan, binary64, of_int, add, sub, tab, side16, side32, halfcomplex_of, sum_of, folded_of, folded, double_line, pair_sum_most, long_line_most, long_sum_most}
use borrow.Author.Tests.{eq-eqb, ne_eqb}
use Rattle.algebra.specs.Order.{abs-add, abs-sub}
use Rattle.sequences.specs.TabLaws.{Filled, fill-turn, get_d-tab}
use Rattle.sequences.specs.Grid.{tab-ext}
use Rattle.recipe.specs.TableLaws.{rules16}
use Rattle.recipe.specs.TableLaws32.{rules32, doubled32}
use Rattle.tile_spectrum.specs.Lines.Lines.{LineMost}
use Rattle.tile_spectrum.specs.Lines.Held.{of, held-is}
use Rattle.tile_spectrum.specs.Lines.SideFolds.{line-ext, even-doubled}
use Rattle.tile_spectrum.specs.Lines.DoubleForms.{sum-exact, difference-exact}
use Rattle.tile_spectrum.specs.Lines.PairLines.{pair-even, pair-odd}

-- the sum and the difference of two numbers half a line apart
abbrev pub sums_of : List ℤ → ℕ → ℤ
sums_of x i = of x i +ℤ of x (i + 32)

abbrev pub differences_of : List ℤ → ℕ → ℤ
differences_of x i = of x i -ℤ of x (i + 32)

-- line p
abbrev pub line_of : List ℤ → ℕ → ℕ → ℤ
line_of x p n = of x (2 * n + p)

-- as the code works them out
module _ {x : List ℤ} (m : LineMost long_line_most x) (i : ℕ) where
  abbrev held : ℕ → Float
  held i = of_int binary64 (to_z w32 (of_z w32 (of x i)))

  held-are : (f : Float → Float → Float) → f (held i) (held (i + 32)) ≡ f (of_int binary64 (of x i)) (of_int binary64 (of x (i + 32)))
  held-are f = ap₂ (λ a b. f (of_int binary64 a) (of_int binary64 b)) (held-is w32 m i tt) (held-is w32 m (i + 32) tt)

  pub pair-sum : add binary64 (held i) (held (i + 32)) ≡ of_int binary64 (sums_of x i)
  pair-sum = held-are (add binary64) ∙ sum-exact (of x i) (of x (i + 32)) (omega (arith, m.at i)) (omega (arith, m.at (i + 32)))

  pub pair-difference : sub binary64 (held i) (held (i + 32)) ≡ of_int binary64 (differences_of x i)
  pair-difference = held-are (sub binary64) ∙ difference-exact (of x i) (of x (i + 32)) (omega (arith, m.at i)) (omega (arith, m.at (i + 32)))

  pub sums_most : nat_abs (sums_of x i) ≤ long_sum_most
  sums_most = omega (arith, abs-add (of x i) (of x (i + 32)), m.at i, m.at (i + 32))

  pub differences-most : nat_abs (differences_of x i) ≤ long_sum_most
  differences-most = omega (arith, abs-sub (of x i) (of x (i + 32)), m.at i, m.at (i + 32))

-- the same again, of the sums z
module _ (z : ℕ → ℤ) (most : (k : ℕ) → nat_abs (z k) ≤ long_sum_most) where
  pub again-most : (i : ℕ) → nat_abs (z i +ℤ z (i + 16)) ≤ pair_sum_most
  again-most i = omega (arith, abs-add (z i) (z (i + 16)), most i, most (i + 16))

  pub less-most : (i : ℕ) → nat_abs (z i -ℤ z (i + 16)) ≤ pair_sum_most
  less-most i = omega (arith, abs-sub (z i) (z (i + 16)), most i, most (i + 16))

  module _ {s : List Float} (e : s ≡ double_line 32 z) where
    number : (i : ℕ) → i < 32 → get_or s i nan ≡ of_int binary64 (z i)
    number i h = ap (λ s. get_or s i nan) e ∙ get_d-tab (λ i. of_int binary64 (z i)) nan 32 i h

    pub again-are : tab 16 (λ i. add binary64 (get_or s i nan) (get_or s (i + 16) nan)) ≡ double_line 16 (λ i. z i +ℤ z (i + 16))
    again-are =
        tab-ext 16 _ _
        (λ i h. ap₂ (add binary64) (number i (omega arith)) (number (i + 16) (omega arith)) ∙ sum-exact (z i) (z (i + 16)) (omega (arith, most i)) (omega (arith, most (i + 16))))

    pub less-are : tab 16 (λ i. sub binary64 (get_or s i nan) (get_or s (i + 16) nan)) ≡ double_line 16 (λ i. z i -ℤ z (i + 16))
    less-are =
        tab-ext 16 _ _
        (λ i h. ap₂ (sub binary64) (number i (omega arith)) (number (i + 16) (omega arith)) ∙ difference-exact (z i) (z (i + 16)) (omega (arith, most i)) (omega (arith, most (i + 16))))

-- a line of sixteen, place k from its even places e and its odd places o
abbrev pub by_twos : (e o : List Float) → ℕ → Float
by_twos e o l = cond (eqb (l % 2) 0) (get_or e (l / 2) nan) (get_or o (l / 2) nan)

module _ (e o : List Float) {k : ℕ} where
  even-at : (i : ℕ) → i % 2 ≡ 0 → i / 2 ≡ k → get_or e k nan ≡ by_twos e o i
  even-at i p q = rw (eq-eqb (i % 2) 0 p, q)

  odd-at : (i : ℕ) → i % 2 ≡ 1 → i / 2 ≡ k → get_or o k nan ≡ by_twos e o i
  odd-at i p q = rw (ne_eqb (i % 2) 0 (λ z. omega arith), q)

  pub twos-turn : {l r : List Float} → Filled (by_twos e o) 16 (2 * k) l r → k < 8 → Filled (by_twos e o) 16 (2 * (k + 1)) l (set (set r (2 * k) (get_or e k nan)) (2 * k + 1) (get_or o k nan))
  twos-turn w h =
      let w1 = fill-turn w (omega arith) (even-at (2 * k) (omega arith) (omega arith)) in
      let w2 = fill-turn w1 (omega arith) (odd-at (2 * k + 1) (omega arith) (omega arith)) in
      let s2 : 2 * k + 1 + 1 ≡ 2 * (k + 1) = omega arith in
      rw s2 at w2

pub twos-are : {e o : List Float} (f : ℕ → ℤ) → e ≡ double_line 8 (λ i. f (2 * i)) → o ≡ double_line 8 (λ i. f (2 * i + 1)) → tab 16 (by_twos e o) ≡ double_line 16 f
unfolding tab
twos-are f p q = ap₂ (λ e o. tab 16 (by_twos e o)) p q

module _ (z : ℕ → ℤ) (p : ℕ) where
  pub again-even : double_line 8 (λ i. folded (λ n. z (2 * n + p) +ℤ z (2 * n + p + 16)) (2 * i)) ≡ double_line 8 (λ i. halfcomplex_of side16 (λ n. z (2 * n + p)) (2 * i))
  unfolding side16
  again-even = tab-ext 8 _ _ (λ i l. ap (of_int binary64) (pair-even rules16 z p i))

  pub again-odd : double_line 8 (λ i. folded (λ n. z (2 * n + p) -ℤ z (2 * n + p + 16)) (2 * i + 1)) ≡ double_line 8 (λ i. halfcomplex_of side16 (λ n. z (2 * n + p)) (2 * i + 1))
  unfolding side16
  again-odd = tab-ext 8 _ _ (λ i l. ap (of_int binary64) (pair-odd rules16 z p i))

-- the places of line p, from its sums and from its differences
module _ (x : List ℤ) (p : ℕ) where
  sums-line : (n : ℕ) → sums_of x (2 * n + p) ≡ sum_of side32 (line_of x p) n
  unfolding sum_of side32
  sums-line n = ap (λ i. of x (2 * n + p) +ℤ of x i) (omega arith)

  pub even-line : double_line 16 (halfcomplex_of side16 (λ n. sums_of x (2 * n + p))) ≡ double_line 16 (λ k. halfcomplex_of side32 (line_of x p) (2 * k))
  even-line =
      tab-ext 16 _ _
      (λ k l. ap (of_int binary64) (line-ext side16 _ (sum_of side32 (line_of x p)) (λ n j. sums-line n) k ∙ even-doubled rules32 rules16 doubled32 (line_of x p) k))

  pub odd-line : double_line 16 (λ i. folded_of side32 (λ n. differences_of x (2 * n + p)) (2 * i + 1)) ≡ double_line 16 (λ i. halfcomplex_of side32 (line_of x p) (2 * i + 1))
  unfolding side32
  odd-line = tab-ext 16 _ _ (λ i l. ap (of_int binary64) (pair-odd rules32 (of x) p i))
