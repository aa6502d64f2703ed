-- The transposed sum of a line in double: the line that its two halves make.
use Rattle.std.specs.Prelude.{◌≡◌, ◌+◌, ◌-◌, ◌*◌, ◌^◌, ◌≤◌, ◌<◌, ◌*ℤ◌}
use Rattle.tile_lines.specs.Back.Prelude.{refl, sym, ap, ap₂, ◌∙◌, Bool, true, false, cond, List, ℕ, arith, ltb, get_or, ℤ, nat_abs, Float, nan, binary64, of_int, add, sub, sum_z, side16, basis, half_basis_of, backward, half_sum, even_sum_of, odd_sum_of, even_half_of, even_sum, odd_sum, even_half, double_line, joined_at}
use borrow.Author.Tests.{ltb-true, ltb-false}
use Rattle.algebra.specs.Order.{abs-mul-le}
use Rattle.algebra.specs.SumLaws.{abs-sum-bound}
use Rattle.sequences.specs.TabLaws.{get_d-tab}
use Rattle.recipe.specs.TableLaws.{rules16}
use Rattle.tile_spectrum.specs.Lines.SideSums.{Halves, back-halves, half-halves}
use Rattle.tile_spectrum.specs.Lines.HalfSumLaws.{basis-most, half-basis-most}
use Rattle.tile_spectrum.specs.Lines.DoubleForms.{sum-exact, difference-exact}

-- number n of a line
at : {x : List Float} (f : ℕ → ℤ) → x ≡ double_line 8 f → (n : ℕ) → n < 8 → get_or x n nan ≡ of_int binary64 (f n)
at f e n h = ap (λ x. get_or x n nan) e ∙ get_d-tab (λ i. of_int binary64 (f i)) nan 8 n h

-- number n of the line f, from the doubles of its parts
module _ {f e o : ℕ → ℤ} (h : Halves 8 f e o) (e-most : (n : ℕ) → nat_abs (e n) ≤ 2 ^ 52) (o-most : (n : ℕ) → nat_abs (o n) ≤ 2 ^ 52) {s t : List Float} (p : s ≡ double_line 8 e) (q : t ≡ double_line 8 o) where
  line_at : (n : ℕ) → n < 16 → joined_at s t n ≡ of_int binary64 (f n)
  line_at n l = go (ltb n 8) (ltb-true n 8) (ltb-false n 8)
    where
      go : (b : Bool) → (b ≡ true → n < 8) → (b ≡ false → 8 ≤ n) → cond b (add binary64 (get_or s n nan) (get_or t n nan)) (sub binary64 (get_or s (n - 8) nan) (get_or t (n - 8) nan)) ≡ of_int binary64 (f n)
      go true k g =
          ap₂ (add binary64) (at e p n (k refl)) (at o q n (k refl)) ∙ sum-exact (e n) (o n) (e-most n) (o-most n)
          ∙ ap (of_int binary64) (sym (h.low n))
      go false k g =
          let m : n - 8 < 8 = omega arith in
          let back : n - 8 + 8 ≡ n = omega (arith, g refl) in
          ap₂ (sub binary64) (at e p (n - 8) m) (at o q (n - 8) m) ∙ difference-exact (e (n - 8)) (o (n - 8)) (e-most (n - 8)) (o-most (n - 8))
          ∙ ap (of_int binary64) (sym (h.high (n - 8)) ∙ ap f back)

-- sums of eight places that are exact, where the places are at most 2^35
module _ (z : ℕ → ℤ) (most : (k : ℕ) → nat_abs (z k) ≤ 2 ^ 35) (n : ℕ) where
  eight-most : (w : ℕ → ℤ) → ((k : ℕ) → nat_abs (w k) ≤ 16384) → nat_abs (sum_z 8 (λ k. z k *ℤ w k)) ≤ 2 ^ 52
  eight-most w m = omega (arith, abs-sum-bound 8 (2 ^ 35 * 16384) (λ k. z k *ℤ w k) (λ k h. abs-mul-le (z k) (w k) (most k) (m k)))

  even-most : nat_abs (even_sum z n) ≤ 2 ^ 52
  unfolding even_sum_of side16
  even-most = eight-most (λ k. basis (2 * k) n) (λ k. basis-most rules16 (2 * k) n)

  odd-most : nat_abs (odd_sum z n) ≤ 2 ^ 52
  unfolding odd_sum_of side16
  odd-most = eight-most (λ k. basis (2 * k + 1) n) (λ k. basis-most rules16 (2 * k + 1) n)

  half-most : nat_abs (even_half z n) ≤ 2 ^ 52
  unfolding even_half_of side16
  half-most = eight-most (λ k. half_basis_of side16 (2 * k) n) (λ k. half-basis-most rules16 (2 * k) n)

-- the sum back, and half of it
module _ (z : ℕ → ℤ) (most : (k : ℕ) → nat_abs (z k) ≤ 2 ^ 35) {s t : List Float} where
  pub back_at : s ≡ double_line 8 (even_sum (λ k. z (2 * k))) → t ≡ double_line 8 (odd_sum (λ k. z (2 * k + 1))) → (n : ℕ) → n < 16 → joined_at s t n ≡ of_int binary64 (backward z n)
  unfolding side16
  back_at = line_at (back-halves rules16 z) (even-most _ (λ k. most (2 * k))) (odd-most _ (λ k. most (2 * k + 1)))

  pub half-at : s ≡ double_line 8 (even_half (λ k. z (2 * k))) → t ≡ double_line 8 (odd_sum (λ k. z (2 * k + 1))) → (n : ℕ) → n < 16 → joined_at s t n ≡ of_int binary64 (half_sum z n)
  unfolding side16
  half-at = line_at (half-halves rules16 z) (half-most _ (λ k. most (2 * k))) (odd-most _ (λ k. most (2 * k + 1)))
