-- A line that a loop stores in both halves at once: number n and number n + h, which are the sums and the differences of two shorter lines.
use mathlib.Core.Path.{fun_ext}
use Rattle.std.specs.Prelude.{◌≡◌, ◌+◌, ◌-◌, ◌*◌, ◌/◌, ◌%◌, ◌^◌, ◌≤◌, ◌<◌, ◌+ℤ◌, ◌-ℤ◌}
use Rattle.tile_lines32_back.specs.Prelude.{refl, sym, ap, ap₂, ◌∙◌, Bool, true, false, cond, List, ℕ, zero, suc, arith, eqb, ltb, lit≤, length, get_or, set, ℤ, nat_abs, Float, nan, binary64, of_int, add, sub, tab, side32, basis_of, backward_of, half_sum_of, odd_sum_of, double_line, long_column_most}
use native.Mathlib.Nat.{le_trans}
use native.Mathlib.Decide.{ℕ_discrete}
use borrow.Author.Tests.{eq-eqb, ne_eqb, ltb-true, ltb-false}
use lib.ListN.{length-set}
use lib.Seq.{get_or-set_same, get_or-set_other}
use Rattle.sequences.specs.TabLaws.{Filled, fill-turn, get_d-tab}
use Rattle.sequences.specs.Grid.{tab-ext, tab-of}
use Rattle.recipe.specs.Tables.{side16}
use Rattle.recipe.specs.TableLaws.{rules16}
use Rattle.recipe.specs.TableLaws32.{rules32, doubled32}
use Rattle.tile_spectrum.specs.Lines.SideSums.{Halves, back-halves, half-halves, even-back, even-half}
use Rattle.tile_spectrum.specs.Lines.BackSizes.{backward-most, half-sum-most, weighed}
use Rattle.tile_spectrum.specs.Lines.DoubleForms.{sum-exact, difference-exact}
use Rattle.tile_lines32_back.proofs.PartSums.{part_sum, odd-sum}

-- ---- the loop

-- x holds f at the first i places of its first half of h places, and g at those of the other: a loop's invariant
pub record Both {A : Type 0} (z : A) (f g : ℕ → A) (h i : ℕ) (x : List A) : Type 0 where
  pub count : i ≤ h
  pub same : length x ≡ h + h
  pub low : (l : ℕ) → l < i → get_or x l z ≡ f l
  pub high : (l : ℕ) → l < i → get_or x (l + h) z ≡ g l

-- a store of v at i, where l is either that place or another
put : {A : Type 0} (z : A) (x : List A) (i l : ℕ) (v w : A) → i < length x → (l ≡ i → v ≡ w) → ((l ≡ i → ⊥) → get_or x l z ≡ w) → get_or (set x i v) l z ≡ w
put z x i l v w h e rest = go (ℕ_discrete l i)
  where
    go : Dec (l ≡ i) → get_or (set x i v) l z ≡ w
    go (yes q) = ap (λ j. get_or (set x i v) j z) q ∙ get_or-set_same x i v z h ∙ e q
    go (no q) = get_or-set_other x i l v z q ∙ rest q

module _ {A : Type 0} {z : A} {f g : ℕ → A} {h : ℕ} where
  pub both-start : {x : List A} → length x ≡ h + h → Both z f g h 0 x
  both-start e = record { count = omega arith; same = e; low = λ l k. absurd (omega arith); high = λ l k. absurd (omega arith) }

  pub both-turn : {i : ℕ} {x : List A} {a b : A} → Both z f g h i x → i < h → a ≡ f i → b ≡ g i → Both z f g h (i + 1) (set (set x i a) (i + h) b)
  both-turn {i} {x} {a} {b} w k p q =
      let x1 = set x i a in
      let long : i + h < length x1 = simp length-set (omega (arith, w.same)) in
      record {
        count = omega arith;
        same = simp length-set w.same;
        low = λ l m.
            put z x1 (i + h) l b (f l) long (λ e. absurd (omega (arith, e)))
            (λ n. put z x i l a (f l) (omega (arith, w.same)) (λ e. p ∙ ap f (sym e)) (λ n. w.low l (omega (arith, n))));
        high = λ l m.
            put z x1 (i + h) (l + h) b (g l) long (λ e. q ∙ ap g (omega (arith, e)))
            (λ n. put z x i (l + h) a (g l) (omega (arith, w.same)) (λ e. absurd (omega (arith, e))) (λ o. w.high l (omega (arith, n))));
      }

  pub both-done : {i : ℕ} {x : List A} → Both z f g h i x → h ≤ i → (v : ℕ → A) → ((l : ℕ) → l < h → f l ≡ v l) → ((l : ℕ) → l < h → g l ≡ v (l + h)) → x ≡ tab (h + h) v
  both-done {i} {x} w k v p q =
      tab-of z x ∙ ap (λ m. tab m (λ l. get_or x l z)) w.same ∙ tab-ext (h + h) (λ l. get_or x l z) v (λ l m. go l m (ltb l h) (ltb-true l h) (ltb-false l h))
    where
      go : (l : ℕ) → l < h + h → (b : Bool) → (b ≡ true → l < h) → (b ≡ false → h ≤ l) → get_or x l z ≡ v l
      go l m true a b = w.low l (omega (arith, a refl)) ∙ p l (a refl)
      go l m false a b =
          let j = l - h in
          let back : j + h ≡ l = omega (arith, b refl) in
          ap (λ l. get_or x l z) (sym back) ∙ w.high j (omega (arith, b refl)) ∙ q j (omega (arith, b refl)) ∙ ap v back

-- ---- lines stored by twos

-- the lines e and o side by side
abbrev pub in_turn : {A : Type 0} → (e o : ℕ → A) → ℕ → A
in_turn e o l = cond (eqb (l % 2) 0) (e (l / 2)) (o (l / 2))

-- two of four numbers of a line of twice the length
abbrev pub first_two : (x : List Float) → ℕ → Float
first_two x l = get_or x (4 * (l / 2) + l % 2) nan

pub twos-turn : {A : Type 0} {f : ℕ → A} {k : ℕ} {l r : List A} {v w : A} → Filled f 32 (2 * k) l r → k < 16 → v ≡ f (2 * k) → w ≡ f (2 * k + 1) → Filled f 32 (2 * (k + 1)) l (set (set r (2 * k) v) (2 * k + 1) w)
twos-turn {f = f} {k} w h p q =
    let w1 = fill-turn w (omega arith) p in
    let w2 = fill-turn w1 (omega arith) q in
    let s2 : 2 * k + 1 + 1 ≡ 2 * (k + 1) = omega arith in
    rw s2 at w2

module _ {A : Type 0} (e o : ℕ → A) where
  pub even-at : (k : ℕ) → e k ≡ in_turn e o (2 * k)
  even-at k =
      let m : 2 * k % 2 ≡ 0 = omega arith in
      let d : 2 * k / 2 ≡ k = omega arith in
      rw (eq-eqb (2 * k % 2) 0 m, d)

  pub odd-at : (k : ℕ) → o k ≡ in_turn e o (2 * k + 1)
  odd-at k =
      let d : (2 * k + 1) / 2 ≡ k = omega arith in
      rw (ne_eqb ((2 * k + 1) % 2) 0 (λ z. omega arith), d)

  -- the lines f 0 and f 1
  pub in-turn-are : (f : ℕ → ℕ → A) → ((n : ℕ) → n < 16 → e n ≡ f 0 n) → ((n : ℕ) → n < 16 → o n ≡ f 1 n) → tab 32 (in_turn e o) ≡ tab 32 (λ l. f (l % 2) (l / 2))
  in-turn-are f p q = tab-ext 32 _ _ (λ l h. go (l % 2) (l / 2) (omega arith) (omega arith))
    where
      go : (r n : ℕ) → r < 2 → n < 16 → cond (eqb r 0) (e n) (o n) ≡ f r n
      go zero n k h = p n h
      go (suc zero) n k h = q n h
      go (suc (suc r)) n k h = absurd (omega arith)

module _ (x : List Float) (k : ℕ) where
  pub first-at : get_or x (4 * k) nan ≡ first_two x (2 * k)
  first-at = ap (λ i. get_or x i nan) (omega arith)

  pub second_at : get_or x (4 * k + 1) nan ≡ first_two x (2 * k + 1)
  second_at = ap (λ i. get_or x i nan) (omega arith)

-- what they hold
pub number : (n : ℕ) {x : List Float} (z : ℕ → ℤ) → x ≡ double_line n z → (i : ℕ) → i < n → get_or x i nan ≡ of_int binary64 (z i)
number n z e i h = ap (λ x. get_or x i nan) e ∙ get_d-tab (λ i. of_int binary64 (z i)) nan n i h

pub first-two : {x : List Float} (z : ℕ → ℤ) → x ≡ double_line 64 z → tab 32 (first_two x) ≡ double_line 32 (λ l. z (4 * (l / 2) + l % 2))
first-two z e = tab-ext 32 _ _ (λ l h. number 64 z e (4 * (l / 2) + l % 2) (omega arith))

-- ---- the sums of two lines

-- the sums of sixteen places are small
module _ (z : ℕ → ℤ) (most : (k : ℕ) → nat_abs (z k) ≤ long_column_most false true) (n : ℕ) where
  pub odd-most : nat_abs (odd_sum_of side32 z n) ≤ 2 ^ 52
  unfolding odd_sum_of side32
  odd-most = le_trans (weighed z most 16 (λ k. basis_of side32 (2 * k + 1) n) (2 * part_sum) (odd-sum n)) (lit≤ tt)

  pub even-most : nat_abs (backward_of side16 z n) ≤ 2 ^ 52
  even-most = le_trans (backward-most z most n) (lit≤ tt)

  pub half-most : nat_abs (half_sum_of side16 z n) ≤ 2 ^ 52
  half-most = le_trans (half-sum-most z most n) (lit≤ tt)

-- number n of a line, from the doubles of its parts e and o
module _ {s t : List Float} {m : ℕ} (e o : ℕ → ℤ) (p : s ≡ double_line m e) (q : t ≡ double_line m o) (n : ℕ) (h : n < m) (a : nat_abs (e n) ≤ 2 ^ 52) (b : nat_abs (o n) ≤ 2 ^ 52) where
  pub low_is : {v : ℤ} → v ≡ e n +ℤ o n → add binary64 (get_or s n nan) (get_or t n nan) ≡ of_int binary64 v
  low_is k = ap₂ (add binary64) (number m e p n h) (number m o q n h) ∙ sum-exact (e n) (o n) a b ∙ ap (of_int binary64) (sym k)

  pub high_is : {v : ℤ} → v ≡ e n -ℤ o n → sub binary64 (get_or s n nan) (get_or t n nan) ≡ of_int binary64 v
  high_is k = ap₂ (sub binary64) (number m e p n h) (number m o q n h) ∙ difference-exact (e n) (o n) a b ∙ ap (of_int binary64) (sym k)

-- the sum back from a line of thirty-two, and half of it
module _ (z : ℕ → ℤ) where
  pub long-halves : Halves 16 (backward_of side32 z) (backward_of side16 (λ k. z (2 * k))) (odd_sum_of side32 (λ k. z (2 * k + 1)))
  unfolding side32
  long-halves =
      let both = back-halves rules32 z in
      record {
        low = λ n. both.low n ∙ ap (λ e. e +ℤ odd_sum_of side32 (λ k. z (2 * k + 1)) n) (even-back rules32 rules16 doubled32 (λ k. z (2 * k)) n);
        high = λ n. both.high n ∙ ap (λ e. e -ℤ odd_sum_of side32 (λ k. z (2 * k + 1)) n) (even-back rules32 rules16 doubled32 (λ k. z (2 * k)) n);
      }

  pub long-half : Halves 16 (half_sum_of side32 z) (half_sum_of side16 (λ k. z (2 * k))) (odd_sum_of side32 (λ k. z (2 * k + 1)))
  unfolding side32
  long-half =
      let both = half-halves rules32 z in
      record {
        low = λ n. both.low n ∙ ap (λ e. e +ℤ odd_sum_of side32 (λ k. z (2 * k + 1)) n) (even-half rules32 rules16 doubled32 (λ k. z (2 * k)) n);
        high = λ n. both.high n ∙ ap (λ e. e -ℤ odd_sum_of side32 (λ k. z (2 * k + 1)) n) (even-half rules32 rules16 doubled32 (λ k. z (2 * k)) n);
      }

-- ---- the columns

module _ (z : ℕ → ℤ) (most : (k : ℕ) → nat_abs (z k) ≤ long_column_most false true) {s t : List Float} (p : s ≡ double_line 16 (backward_of side16 (λ k. z (2 * k)))) (q : t ≡ double_line 16 (odd_sum_of side32 (λ k. z (2 * k + 1)))) (n : ℕ) (h : n < 16) where
  pub column-low : add binary64 (get_or s n nan) (get_or t n nan) ≡ of_int binary64 (backward_of side32 z n)
  column-low =
      low_is _ _ p q n h (even-most (λ k. z (2 * k)) (λ k. most (2 * k)) n) (odd-most (λ k. z (2 * k + 1)) (λ k. most (2 * k + 1)) n) ((long-halves z).low n)

  pub column-high : sub binary64 (get_or s n nan) (get_or t n nan) ≡ of_int binary64 (backward_of side32 z (n + 16))
  column-high =
      high_is _ _ p q n h (even-most (λ k. z (2 * k)) (λ k. most (2 * k)) n) (odd-most (λ k. z (2 * k + 1)) (λ k. most (2 * k + 1)) n) ((long-halves z).high n)

-- ---- two rows g 0 and g 1

module _ (g : ℕ → ℕ → ℤ) where
  abbrev pub rows : ℕ → ℤ
  rows l = g (l % 2) (l / 2)

  pub row-evens : double_line 32 (λ l. rows (4 * (l / 2) + l % 2)) ≡ double_line 32 (λ l. g (l % 2) (2 * (l / 2)))
  row-evens =
      tab-ext 32 _ _
      (λ l h. let a : (4 * (l / 2) + l % 2) % 2 ≡ l % 2 = omega arith in let b : (4 * (l / 2) + l % 2) / 2 ≡ 2 * (l / 2) = omega arith in
      ap₂ (λ p k. of_int binary64 (g p k)) a b)

  row-odd : (p k : ℕ) → p < 2 → rows (4 * k + 2 + p) ≡ g p (2 * k + 1)
  row-odd p k h =
      let a : (4 * k + 2 + p) % 2 ≡ p = omega arith in
      let b : (4 * k + 2 + p) / 2 ≡ 2 * k + 1 = omega arith in
      ap₂ g a b

  pub row-odds : double_line 32 (λ l. odd_sum_of side32 (λ k. rows (4 * k + 2 + l % 2)) (l / 2)) ≡ double_line 32 (λ l. odd_sum_of side32 (λ k. g (l % 2) (2 * k + 1)) (l / 2))
  row-odds = tab-ext 32 _ _ (λ l h. ap (λ (f : ℕ → ℤ). of_int binary64 (odd_sum_of side32 f (l / 2))) (fun_ext (λ k. row-odd (l % 2) k (omega arith))))

  module _ (most : (p k : ℕ) → nat_abs (g p k) ≤ long_column_most false true) {s t : List Float} (p : s ≡ double_line 32 (λ l. half_sum_of side16 (λ k. g (l % 2) (2 * k)) (l / 2))) (q : t ≡ double_line 32 (λ l. odd_sum_of side32 (λ k. g (l % 2) (2 * k + 1)) (l / 2))) (l : ℕ) (h : l < 32) where
    abbrev line : ℕ → ℤ
    line = g (l % 2)

    e-most : nat_abs (half_sum_of side16 (λ k. line (2 * k)) (l / 2)) ≤ 2 ^ 52
    e-most = half-most (λ k. line (2 * k)) (λ k. most (l % 2) (2 * k)) (l / 2)

    o-most : nat_abs (odd_sum_of side32 (λ k. line (2 * k + 1)) (l / 2)) ≤ 2 ^ 52
    o-most = odd-most (λ k. line (2 * k + 1)) (λ k. most (l % 2) (2 * k + 1)) (l / 2)

    pub row_low : add binary64 (get_or s l nan) (get_or t l nan) ≡ of_int binary64 (half_sum_of side32 line (l / 2))
    row_low = low_is _ _ p q l h e-most o-most ((long-half line).low (l / 2))

    pub row-high : sub binary64 (get_or s l nan) (get_or t l nan) ≡ of_int binary64 (half_sum_of side32 (g ((l + 32) % 2)) ((l + 32) / 2))
    row-high =
        let a : (l + 32) % 2 ≡ l % 2 = omega arith in
        let b : (l + 32) / 2 ≡ l / 2 + 16 = omega arith in
        high_is _ _ p q l h e-most o-most (ap₂ (λ p n. half_sum_of side32 (g p) n) a b ∙ (long-half line).high (l / 2))
