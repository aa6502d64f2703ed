-- The odd places of a line of thirty-two in four parts: what its even and its odd numbers add to the real parts of numbers 1, 3, 5 and 7, and to the imaginary
-- parts. Each part is worked out by forms of the line's sixteen differences; the places are the parts' sums and differences.
use Rattle.std.specs.Prelude.{◌≡◌, ◌∷◌, ◌+◌, ◌*◌, ◌/◌, ◌%◌, ◌^◌, ◌≤◌, ◌<◌, ◌*ℤ◌}
use Rattle.tile_lines32_double.specs.Prelude.{refl, ap, ◌∙◌, Bool, true, false, cond, List, [], ℕ, arith, T, eqb, get_or, ℤ, pos, nat_abs, Float, nan, binary64, add, sub, sum_z, tab, Form, var, plus, minus, cos_at, cosines32, cosine32, side32, frequency_of, phase_of, basis_of, folded_of, every_second, double_line, long_sum_most}
use Prim.Native.Nat.{zero-le}
use Rattle.algebra.specs.Order.{abs-mul-le}
use Rattle.algebra.specs.Ring.{Expr, con, ◌⊞◌, ◌⊟◌, ◌⊠◌, nth}
use Rattle.algebra.specs.Ring as ring
use Rattle.algebra.specs.SumLaws.{abs-sum-bound}
use Rattle.algebra.specs.Forms.{evals, same, rings, sum_e}
use Rattle.recipe.specs.TableLaws32.{rules32}
use Rattle.tile_spectrum.specs.Lines.HalfSumLaws.{basis-most}
use Rattle.tile_lines32_double.specs.Parts.{InParts}
use Rattle.tile_spectrum.specs.Lines.DoubleForms.{floats, in_double, all_count, exprs, at, forms-are, from, from_is, picked}

-- what the numbers of parity q add to place k, as an expression
abbrev pub part_e : (q k : ℕ) → Expr
part_e q k = sum_e 16 (λ n. cond (eqb (n % 2) q) (ring.var n) (con (pos 0)) ⊠ con (basis_of side32 k n))

-- ---- forms of the differences of line p, where its numbers stand at p, p + 2, ..

module _ (p : ℕ) (h : p < 2) {t : List Float} (z : ℕ → ℤ) (most : (k : ℕ) → nat_abs (z k) ≤ long_sum_most) (e : t ≡ double_line 32 z) where
  line-is : tab 16 (λ k. get_or t (from 2 p k) nan) ≡ in_double (tab 16 (λ n. z (2 * n + p)))
  unfolding tab
  line-is = picked 16 32 z e (from 2 p) (λ k. 2 * k + p) (λ k l. from_is 2 p k) (λ k l. omega (arith, h))

  pub line-are : (es : List Form) (rs : List Expr) → T (all_count (λ k. long_sum_most) es) → T (same (exprs 16 es) rs) → floats es (at (tab 16 (λ k. get_or t (from 2 p k) nan))) ≡ in_double (evals rs (nth (tab 16 (λ n. z (2 * n + p)))))
  line-are = forms-are 16 (λ n. z (2 * n + p)) (λ n. most (2 * n + p)) line-is

-- ---- the places from the parts

-- from the sixteen numbers of the four parts in turn
abbrev pub joins : {A : Type 0} → (f g : A → A → A) (v : ℕ → A) → List A
joins f g v =
    f (v 0) (v 4) ∷ f (v 1) (v 5) ∷ f (v 2) (v 6) ∷ f (v 3) (v 7) ∷ g (v 3) (v 7) ∷ g (v 2) (v 6) ∷ g (v 1) (v 5) ∷ g (v 0) (v 4) ∷ f (v 8) (v 12) ∷ f (v 9) (v 13) ∷ f (v 10) (v 14) ∷ f (v 11) (v 15) ∷ g (v 15) (v 11) ∷ g (v 14) (v 10) ∷ g (v 13) (v 9) ∷ g (v 12) (v 8) ∷ []

-- number j of them: the parity of the line's numbers, and the place
abbrev parity : ℕ → ℕ
parity j = j / 4 % 2

abbrev place : ℕ → ℕ
place j = 2 * (j % 4) + 1 + 16 * (j / 8)

module _ (z : ℕ → ℤ) (most : (k : ℕ) → nat_abs (z k) ≤ long_sum_most) where
  abbrev part_of : ℕ → ℤ
  part_of j = folded_of side32 (every_second (parity j) z) (place j)

  second-within : (q n : ℕ) → nat_abs (every_second q z n) ≤ long_sum_most
  unfolding every_second
  second-within q n = go (eqb (n % 2) q)
    where
      go : (b : Bool) → nat_abs (cond b (z n) (pos 0)) ≤ long_sum_most
      go true = most n
      go false = zero-le

  part-most : (j : ℕ) → nat_abs (part_of j) ≤ 2 ^ 50
  unfolding folded_of side32
  part-most j =
      omega (arith, abs-sum-bound 16 (long_sum_most * 16384) (λ n. every_second (parity j) z n *ℤ basis_of side32 (place j) n) (λ n h. abs-mul-le (every_second (parity j) z n) (basis_of side32 (place j) n) (second-within (parity j) n) (basis-most rules32 (place j) n)))

  -- in double
  parts_are : joins (add binary64) (sub binary64) (at (in_double (tab 16 part_of))) ≡ in_double (evals (joins ◌⊞◌ ◌⊟◌ ring.var) (nth (tab 16 part_of)))
  parts_are = forms-are 16 part_of part-most refl (joins plus minus var) (joins ◌⊞◌ ◌⊟◌ ring.var) tt tt

  -- in whole numbers
  places-are : evals (joins ◌⊞◌ ◌⊟◌ ring.var) (nth (tab 16 part_of)) ≡ tab 16 (λ i. folded_of side32 z (2 * i + 1))
  unfolding tab sum_z folded_of every_second basis_of frequency_of phase_of cos_at side32 cosine32 cosines32
  places-are =
      rings (tab 16 z) (joins ◌⊞◌ ◌⊟◌ (λ j. part_e (parity j) (place j))) (tab 16 (λ i. sum_e 16 (λ n. ring.var n ⊠ con (basis_of side32 (2 * i + 1) n)))) tt

  module _ {a b c d : List Float} (w : InParts z a b c d) where
    -- the four parts, as the code reads them
    abbrev read : (a b c d : List Float) → List Float
    read a b c d = joins (add binary64) (sub binary64) (λ j. get_or (get_or (a ∷ b ∷ c ∷ d ∷ []) (j / 4) []) (j % 4) nan)

    pub joined-are : read a b c d ≡ double_line 16 (λ i. folded_of side32 z (2 * i + 1))
    unfolding tab
    joined-are = rw (w.even_cosines, w.odd_cosines, w.even_sines, w.odd_sines) (parts_are ∙ ap in_double places-are)
