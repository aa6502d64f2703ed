-- Sums in parts that become vectors are the sums over a tile's rows.
use Rattle.std.specs.Prelude.{◌≡◌, ◌+◌, ◌*◌, ◌≤◌}
use Rattle.algebra.specs.Prelude.{refl, ap, ap₂, ◌∙◌, Bool, false, List, ℕ, zero, suc, arith, get_or}
use Rattle.algebra.specs.Sums.{sum_n}
use Rattle.algebra.specs.SumLaws.{sum_n-cong, sum_n-add}
use Rattle.sequences.specs.Tab.{tab}
use Rattle.sequences.specs.TabLaws.{get_d-tab}
use Rattle.align_residual.specs.Magnitudes.{pair_most}
use Rattle.sequences.specs.Sum.{Summed, sum_done}
use Rattle.align_residual.specs.Residual.{gap, difference}
use Rattle.align_residual.specs.Local.{row_sum, square_row, square_sum, column_sum, pair_sum, beside_sum, Low, Compared}

-- what holds of more values holds of fewer
pub low-less : {l : List ℕ} {n : ℕ} → Low l n → (m : ℕ) → m ≤ n → Low l m
low-less w m h = record { room = omega (arith, w.room); most = λ k b. w.most k (omega arith) }

pub compared-less : {tile window : List ℕ} {m n : ℕ} → Compared tile window m n → (p q : ℕ) → p ≤ m → q ≤ n → Compared tile window p q
compared-less w p q h k = record { tile_low = low-less w.tile_low p h; window_low = low-less w.window_low q k }

sum-four : (n : ℕ) (p q r s : ℕ → ℕ) → sum_n n (λ j. p j + q j + r j + s j) ≡ sum_n n p + sum_n n q + sum_n n r + sum_n n s
unfolding sum_n
sum-four zero p q r s = refl
sum-four (suc n) p q r s = omega (arith, sum-four n p q r s)

by-fours : (f : ℕ → ℕ) → sum_n 4 (λ g. f (4 * g) + f (4 * g + 1) + f (4 * g + 2) + f (4 * g + 3)) ≡ sum_n 16 f
unfolding sum_n
by-fours f = omega arith

module _ (f : ℕ → ℕ → ℕ) (tile window : List ℕ) (start stride : ℕ) where
  -- the pairs of row i
  row : ℕ → ℕ → ℕ
  row i j = f (get_or tile (i * 16 + j) 0) (get_or window (start + i * stride + j) 0)

  place : (a b i j : ℕ) → a ≡ i * 16 + j → b ≡ start + i * stride + j → f (get_or tile a 0) (get_or window b 0) ≡ row i j
  unfolding row
  place a b i j e h = ap₂ (λ a b. f (get_or tile a 0) (get_or window b 0)) e h

  column-rows : (g j : ℕ) → column_sum f tile window (64 * g + j) (start + 4 * g * stride + j) stride ≡ row (4 * g) j + row (4 * g + 1) j + row (4 * g + 2) j + row (4 * g + 3) j
  column-rows g j =
      ap₂ ◌+◌
      (ap₂ ◌+◌
      (ap₂ ◌+◌ (place (64 * g + j) (start + 4 * g * stride + j) (4 * g) j (omega arith) (omega arith))
      (place (64 * g + j + 16) (start + 4 * g * stride + j + stride) (4 * g + 1) j (omega arith) (omega arith)))
      (place (64 * g + j + 32) (start + 4 * g * stride + j + 2 * stride) (4 * g + 2) j (omega arith) (omega arith)))
      (place (64 * g + j + 48) (start + 4 * g * stride + j + 3 * stride) (4 * g + 3) j (omega arith) (omega arith))

  -- the sum of the columns of four rows
  columns_sum : ℕ → ℕ
  columns_sum g = sum_n 16 (λ j. column_sum f tile window (64 * g + j) (start + 4 * g * stride + j) stride)

  columns_whole : sum_n 4 columns_sum ≡ pair_sum f tile window start stride
  unfolding pair_sum row columns_sum
  columns_whole =
      sum_n-cong 4 columns_sum (λ g. sum_n 16 (row (4 * g)) + sum_n 16 (row (4 * g + 1)) + sum_n 16 (row (4 * g + 2)) + sum_n 16 (row (4 * g + 3)))
      (λ g h. sum_n-cong 16 _ _ (λ j k. column-rows g j) ∙ sum-four 16 (row (4 * g)) (row (4 * g + 1)) (row (4 * g + 2)) (row (4 * g + 3)))
      ∙ by-fours (λ i. sum_n 16 (row i))

  one : (g a b : ℕ) (l : List ℕ) → a ≡ 64 * g → b ≡ start + 4 * g * stride → l ≡ tab 16 (λ j. column_sum f tile window (a + j) (b + j) stride) → sum_n 16 (λ j. get_or l j 0) ≡ columns_sum g
  unfolding columns_sum
  one g a b l ea eb e =
      sum_n-cong 16 _ _
      (λ j h. ap (λ l. get_or l j 0) e
      ∙ get_d-tab (λ j. column_sum f tile window (a + j) (b + j) stride) 0 16 j h
      ∙ ap₂ (λ a b. column_sum f tile window (a + j) (b + j) stride) ea eb)

  add-four : sum_n 4 columns_sum ≡ columns_sum 0 + columns_sum 1 + columns_sum 2 + columns_sum 3
  unfolding sum_n
  add-four = omega arith

  -- what the columns of four times four rows add up to
  module _ (p q r s : List ℕ) (n : ℕ) where
    pub total-whole : p ≡ tab 16 (λ j. column_sum f tile window (0 + j) (start + j) stride) → q ≡ tab 16 (λ j. column_sum f tile window (64 + j) (start + 4 * stride + j) stride) → r ≡ tab 16 (λ j. column_sum f tile window (128 + j) (start + 8 * stride + j) stride) → s ≡ tab 16 (λ j. column_sum f tile window (192 + j) (start + 12 * stride + j) stride) → n ≡ sum_n 16 (λ j. get_or p j 0 + get_or q j 0 + get_or r j 0 + get_or s j 0) → n ≡ pair_sum f tile window start stride
    total-whole ep eq er es e =
        omega (
          arith,
          e,
          sum-four 16 (λ j. get_or p j 0) (λ j. get_or q j 0) (λ j. get_or r j 0) (λ j. get_or s j 0),
          one 0 0 start p (omega arith) (omega arith) ep,
          one 1 64 (start + 4 * stride) q (omega arith) (omega arith) eq,
          one 2 128 (start + 8 * stride) r (omega arith) (omega arith) er,
          one 3 192 (start + 12 * stride) s (omega arith) (omega arith) es,
          add-four,
          columns_whole,
        )

-- the distances are the absolute differences
pub absolute-pairs : (tile window : List ℕ) (start stride : ℕ) → pair_sum gap tile window start stride ≡ square_sum false tile window start stride 16
unfolding pair_sum square_sum square_row row_sum difference
absolute-pairs tile window start stride = refl

-- eight pairs of places, eight apart
halves : (f : ℕ → ℕ) → sum_n 8 (λ j. f j + f (8 + j)) ≡ sum_n 16 f
unfolding sum_n
halves f = omega arith

-- a row from pairs of samples eight apart
pub beside-row : (tile window : List ℕ) (a b : ℕ) → sum_n 8 (λ j. beside_sum tile window (a + j) (b + j)) ≡ row_sum false tile window a b 16
unfolding row_sum difference
beside-row tile window a b =
    let f : ℕ → ℕ = λ j. gap (get_or tile (a + j) 0) (get_or window (b + j) 0) in
    sum_n-cong 8 _ _ (λ j h. ap₂ (λ m n. f j + gap (get_or tile m 0) (get_or window n 0)) (omega arith) (omega arith))
    ∙ halves f

-- and two of them, the second `step` further in the window
pub four-rows : (tile window : List ℕ) (a b step : ℕ) → sum_n 8 (λ j. beside_sum tile window (a + j) (b + j) + beside_sum tile window (a + j + 16) (b + j + step)) ≡ row_sum false tile window a b 16 + row_sum false tile window (a + 16) (b + step) 16
four-rows tile window a b step =
    sum_n-add 8 (λ j. beside_sum tile window (a + j) (b + j)) (λ j. beside_sum tile window (a + j + 16) (b + j + step))
    ∙ ap₂ ◌+◌ (beside-row tile window a b)
    (sum_n-cong 8 _ _ (λ j h. ap₂ (beside_sum tile window) (omega arith) (omega arith)) ∙ beside-row tile window (a + 16) (b + step))

-- what eight numbers of 16 bits add up to
pub eight-done : {f : ℕ → ℕ} {j sum total : ℕ} → Summed f 65535 8 j sum → 8 ≤ j → sum_n 8 f ≡ total → (sum ≡ total) × (sum ≤ pair_most)
eight-done w h e = (sum_done w h ∙ e, omega (arith, w.most, w.count))

-- a row by its index
pub row_at : (squared : Bool) (tile window : List ℕ) (start stride side i a b : ℕ) → a ≡ i * side → b ≡ start + i * stride → row_sum squared tile window a b side ≡ square_row squared tile window start stride side i
unfolding square_row
row_at squared tile window start stride side i a b e f = ap₂ (λ a b. row_sum squared tile window a b side) e f
