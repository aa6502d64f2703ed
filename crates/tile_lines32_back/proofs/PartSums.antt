-- The odd places' sum of a line of thirty-two from its two parts, in whole numbers and, where noise is low or middle, in double; and how large a part is.
use Rattle.std.specs.Prelude.{◌≡◌, ◌∷◌, ◌+◌, ◌-◌, ◌*◌, ◌%◌, ◌^◌, ◌≤◌, ◌+ℤ◌, ◌-ℤ◌}
use Rattle.tile_lines32_back.specs.Prelude.{refl, ap, ap₂, ◌∙◌, Bool, true, false, cond, List, [], ℕ, arith, eqb, ltb, lit≤, get_or, ℤ, nat_abs, Float, nan, Expr, con, ◌⊞◌, ◌⊟◌, ◌⊠◌, sum_z, sum_n, rings, sum_e, tab, Form, var, plus, minus, cos_at, cosines32, cosine32, side32, half_z, frequency_of, phase_of, basis_of, odd_sum_of, long_column_most, double_line, From}
use native.Mathlib.Nat.{le_trans}
use Rattle.algebra.specs.Ring as ring
use Rattle.tile_spectrum.specs.Lines.BackSizes.{basis-period, summed, weighed}
use Rattle.tile_spectrum.specs.Lines.DoubleForms.{floats, in_double, exprs, forms-are}
use Rattle.tile_lines32_back.specs.Parts.{part_basis, cosine_part, sine_part, InParts}

-- ---- in whole numbers

-- the sixteen numbers of the sum, from its parts
abbrev pub joined_z : (c s : ℕ → ℤ) → List ℤ
joined_z c s = (c 0 +ℤ c 0) ∷ (c 1 +ℤ s 1) ∷ (c 2 +ℤ s 2) ∷ (c 3 +ℤ s 3) ∷ (c 4 +ℤ s 4) ∷ (c 5 +ℤ s 5) ∷ (c 6 +ℤ s 6) ∷ (c 7 +ℤ s 7) ∷ (s 8 +ℤ s 8) ∷ (s 7 -ℤ c 7) ∷ (s 6 -ℤ c 6) ∷ (s 5 -ℤ c 5) ∷ (s 4 -ℤ c 4) ∷ (s 3 -ℤ c 3) ∷ (s 2 -ℤ c 2) ∷ (s 1 -ℤ c 1) ∷ []

abbrev joined_e : (c s : ℕ → Expr) → List Expr
joined_e c s = (c 0 ⊞ c 0) ∷ (c 1 ⊞ s 1) ∷ (c 2 ⊞ s 2) ∷ (c 3 ⊞ s 3) ∷ (c 4 ⊞ s 4) ∷ (c 5 ⊞ s 5) ∷ (c 6 ⊞ s 6) ∷ (c 7 ⊞ s 7) ∷ (s 8 ⊞ s 8) ∷ (s 7 ⊟ c 7) ∷ (s 6 ⊟ c 6) ∷ (s 5 ⊟ c 5) ∷ (s 4 ⊟ c 4) ∷ (s 3 ⊟ c 3) ∷ (s 2 ⊟ c 2) ∷ (s 1 ⊟ c 1) ∷ []

-- the parts of sixteen variables
abbrev pub cosines_e : ℕ → Expr
cosines_e n = sum_e 8 (λ k. ring.var k ⊠ con (part_basis (2 * k + 1) n))

abbrev pub sines_e : ℕ → Expr
sines_e n = sum_e 8 (λ k. ring.var (8 + k) ⊠ con (part_basis (2 * k + 17) n))

pub joined-are : (g : ℕ → ℤ) → joined_z (cosine_part g) (sine_part g) ≡ tab 16 (odd_sum_of side32 g)
unfolding tab sum_z cosine_part sine_part part_basis half_z odd_sum_of basis_of frequency_of phase_of cos_at side32 cosine32 cosines32
joined-are g = rings (tab 16 g) (joined_e cosines_e sines_e) (tab 16 (λ n. sum_e 16 (λ k. ring.var k ⊠ con (basis_of side32 (2 * k + 1) n)))) tt

-- ---- their magnitudes

-- what the magnitudes of their basis add up to, at most
abbrev pub part_sum : ℕ
part_sum = 92680

part-period : (k n : ℕ) → part_basis k n ≡ part_basis k (n % side32.side)
unfolding part_basis side32
part-period k n =
    let m : n % 8 ≡ n % 32 % 8 = omega arith in
    ap₂ (λ m c. cond (eqb m 0) (half_z c) c) m (basis-period side32 k n)

cosine-sum : (n : ℕ) → sum_n 8 (λ k. nat_abs (part_basis (2 * k + 1) n)) ≤ part_sum
unfolding sum_n part_basis half_z basis_of frequency_of phase_of cos_at side32 cosine32 cosines32
cosine-sum = summed side32 (λ k. part_basis (2 * k + 1)) (λ k. part-period (2 * k + 1)) 8 part_sum tt

sine-sum : (n : ℕ) → sum_n 8 (λ k. nat_abs (part_basis (2 * k + 17) n)) ≤ part_sum
unfolding sum_n part_basis half_z basis_of frequency_of phase_of cos_at side32 cosine32 cosines32
sine-sum = summed side32 (λ k. part_basis (2 * k + 17)) (λ k. part-period (2 * k + 17)) 8 part_sum tt

module _ {b : ℕ} (z : ℕ → ℤ) (most : (k : ℕ) → nat_abs (z k) ≤ b) (n : ℕ) where
  pub cosine-most : nat_abs (cosine_part z n) ≤ b * part_sum
  unfolding cosine_part
  cosine-most = weighed z most 8 (λ k. part_basis (2 * k + 1) n) part_sum (cosine-sum n)

  pub sine-most : nat_abs (sine_part z n) ≤ b * part_sum
  unfolding sine_part
  sine-most = weighed (λ k. z (8 + k)) (λ k. most (8 + k)) 8 (λ k. part_basis (2 * k + 17) n) part_sum (sine-sum n)

-- and over all odd places
pub odd-sum : (n : ℕ) → sum_n 16 (λ k. nat_abs (basis_of side32 (2 * k + 1) n)) ≤ 2 * part_sum
unfolding sum_n basis_of frequency_of phase_of cos_at side32 cosine32 cosines32
odd-sum = summed side32 (λ k. basis_of side32 (2 * k + 1)) (λ k. basis-period side32 (2 * k + 1)) 16 (2 * part_sum) tt

-- ---- in double

-- var 0 to 3 are cosine parts at even numbers, 4 to 7 at odd ones; 8 to 11 are sine parts at even numbers, 12 to 15 at odd ones
abbrev joins : List Form
joins = plus (var 0) (var 0) ∷ plus (var 4) (var 12) ∷ plus (var 1) (var 8) ∷ plus (var 5) (var 13) ∷ plus (var 2) (var 9) ∷ plus (var 6) (var 14) ∷ plus (var 3) (var 10) ∷ plus (var 7) (var 15) ∷ plus (var 11) (var 11) ∷ minus (var 15) (var 7) ∷ minus (var 10) (var 3) ∷ minus (var 14) (var 6) ∷ minus (var 9) (var 2) ∷ minus (var 13) (var 5) ∷ minus (var 8) (var 1) ∷ minus (var 12) (var 4) ∷ []

abbrev fourths : {A : Type 0} → (a b c d : ℕ → A) → ℕ → A
fourths a b c d i = cond (ltb i 4) (a i) (cond (ltb i 8) (b (i - 4)) (cond (ltb i 12) (c (i - 8)) (d (i - 12))))

-- as the code reads them
abbrev pub joined_d : (a b c d : List Float) → List Float
joined_d a b c d = floats joins (fourths (λ i. get_or a i nan) (λ i. get_or b i nan) (λ i. get_or c i nan) (λ i. get_or d i nan))

module _ (g : ℕ → ℤ) (most : (k : ℕ) → nat_abs (g k) ≤ long_column_most false true) where
  abbrev parts : ℕ → ℤ
  parts = fourths (λ n. cosine_part g (2 * n)) (λ n. cosine_part g (2 * n + 1)) (λ n. sine_part g (2 * n + 2)) (λ n. sine_part g (2 * n + 1))

  either-most : (b : Bool) (x y : ℤ) → nat_abs x ≤ 2 ^ 52 → nat_abs y ≤ 2 ^ 52 → nat_abs (cond b x y) ≤ 2 ^ 52
  either-most true x y p q = p
  either-most false x y p q = q

  parts-most : (i : ℕ) → nat_abs (parts i) ≤ 2 ^ 52
  parts-most i =
      let a = cosine_part g (2 * i) in
      let b = cosine_part g (2 * (i - 4) + 1) in
      let c = sine_part g (2 * (i - 8) + 2) in
      let d = sine_part g (2 * (i - 12) + 1) in
      either-most (ltb i 4) a (cond (ltb i 8) b (cond (ltb i 12) c d)) (le_trans (cosine-most g most (2 * i)) (lit≤ tt))
      (either-most (ltb i 8) b (cond (ltb i 12) c d) (le_trans (cosine-most g most (2 * (i - 4) + 1)) (lit≤ tt))
      (either-most (ltb i 12) c d (le_trans (sine-most g most (2 * (i - 8) + 2)) (lit≤ tt)) (le_trans (sine-most g most (2 * (i - 12) + 1)) (lit≤ tt))))

  pub parts_join : joined_d (double_line 4 (λ n. cosine_part g (2 * n))) (double_line 4 (λ n. cosine_part g (2 * n + 1))) (double_line 4 (λ n. sine_part g (2 * n + 2))) (double_line 4 (λ n. sine_part g (2 * n + 1))) ≡ double_line 16 (odd_sum_of side32 g)
  unfolding tab
  parts_join = forms-are 16 parts parts-most refl joins (exprs 16 joins) tt tt ∙ ap in_double (joined-are g)

pub joined-doubles : {a b c d : List Float} (w : InParts (long_column_most false true) a b c d) → joined_d a b c d ≡ double_line 16 (odd_sum_of side32 w.number)
joined-doubles {a} {b} {c} {d} w =
    let g = w.number in
    ap₂ (λ a b. joined_d a b c d) w.even_cosines w.odd_cosines
    ∙ ap₂ (joined_d (double_line 4 (λ n. cosine_part g (2 * n))) (double_line 4 (λ n. cosine_part g (2 * n + 1)))) w.even_sines w.odd_sines
    ∙ parts_join g w.most

-- ---- from the kernels

abbrev pub parts-of : {m : ℕ} {o a b c d : List Float} (g : ℕ → ℤ) → ((k : ℕ) → nat_abs (g k) ≤ m) → m ≤ long_column_most false false → o ≡ double_line 16 g
    → From (long_column_most false false) 16 o (λ g. a ≡ double_line 4 (λ n. cosine_part g (2 * n))) → From (long_column_most false false) 16 o (λ g. b ≡ double_line 4 (λ n. cosine_part g (2 * n + 1)))
    → From (long_column_most false false) 16 o (λ g. c ≡ double_line 4 (λ n. sine_part g (2 * n + 2))) → From (long_column_most false false) 16 o (λ g. d ≡ double_line 4 (λ n. sine_part g (2 * n + 1)))
    → InParts m a b c d
parts-of g most l e p q r s =
    let less : (k : ℕ) → nat_abs (g k) ≤ long_column_most false false = λ k. le_trans (most k) l in
    record { number = g; most = most; even_cosines = p g less e; odd_cosines = q g less e; even_sines = r g less e; odd_sines = s g less e }
