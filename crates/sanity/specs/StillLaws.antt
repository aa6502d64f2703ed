-- Alignment of two images of which no tile gains by a move: no offset and no candidate takes the place of 0, at any level. Equal images are such.
use Rattle.sanity.specs.Prelude.{refl, ap, ap₂, ◌∙◌, Bool, true, false, List, ℕ, zero, suc, arith, sum_n, replicate, Shape, vector_length, Allowed, Level, finest_level, level1, level2, level3, Step, finest_step, step2to1, step3to2, frame_parts, Tile, Vector, still, ◌plus◌, ◌times◌, gap, difference, Pair, row_residual, residual, VectorField, part, word, word_of, vector_list, level_tile, coarsest, from_coarse, finer, field0, field1, field2, field3, level_rows, level_columns, residual_sum, field_of, aligned_vectors}
use Rattle.std.proofs.Common.{mul_comm}
use Rattle.std.specs.Prelude.{ℤ, ◌+ℤ◌, ◌≡◌, ◌-◌, ◌*◌, ◌/◌, ◌%◌, ◌≤◌, ◌<◌}
use Rattle.std.proofs.Math.IntN.{pos, +ℤ_idr, zero-*ℤ}
use Rattle.algebra.specs.SumLaws.{sum_n-cong, sum_n-const}
use Rattle.sequences.specs.Grid.{tab-ext}
use Rattle.sequences.specs.ClearLaws.{tab-const}
use Rattle.sequences.specs.Least.{first_min}
use Rattle.align_search.specs.Offsets.{offset}
use Rattle.align_search.specs.OffsetLaws.{offset-zero}
use Rattle.align_search.specs.Search.{tried, chosen, best_vector, three, guessed}
use Rattle.sequences.specs.LeastLaws.{first}
use Rattle.align_field.specs.LevelSums.{residuals}
use Rattle.sanity.specs.FrameLaws.{row_inside}

-- a sum of equal terms
pub sum_same : (n c : ℕ) (f : ℕ → ℕ) → ((i : ℕ) → i < n → f i ≡ c) → sum_n n f ≡ n * c
sum_same n c f h = sum_n-cong n f (λ i. c) h ∙ sum_n-const n c

-- the earliest of the least: none is smaller than the first
first-least : (f : ℕ → ℕ) (n : ℕ) → ((k : ℕ) → f 0 ≤ f k) → first_min f n ≡ 0
first-least f n h = by (first_min f n) refl
  where
    by : (k : ℕ) → first_min f n ≡ k → k ≡ 0
    by zero p = refl
    by (suc k) p = absurd (omega (arith, first f n 0 (omega arith), h (first_min f n)))

-- two images of which no tile gains by a move
pub record AtRest (p : Pair) : Type 0 where
  pub least : (squared : Bool) (t : Tile) (v : Vector) → residual squared p t still ≤ residual squared p t v

module _ (p : Pair) (rest : AtRest p) where
  still-found : (squared : Bool) (t : Tile) → best_vector squared p t still ≡ still
  unfolding best_vector chosen tried
  still-found squared t =
      ap (λ k. still plus offset k) (first-least (tried squared p t still) 80 (λ k. rw offset-zero (rest.least squared t (still plus offset k)))) ∙ ap (λ o. still plus o) offset-zero

  still-guess : (t : Tile) → guessed p t still still still ≡ still
  unfolding guessed three
  still-guess t = by (first_min (λ k. residual false p t (three still still still k)) 2)
    where
      by : (k : ℕ) → three still still still k ≡ still
      by zero = refl
      by (suc zero) = refl
      by (suc (suc k)) = refl

  guess-still : (t : Tile) {own sideways vertically : Vector} → own ≡ still → sideways ≡ still → vertically ≡ still → guessed p t own sideways vertically ≡ still
  guess-still t a b c = rw (a, b, c) (still-guess t)

still-times : {v : Vector} (f : ℕ) → v ≡ still → v times f ≡ still
still-times f e = ap (λ v. v times f) e ∙ ap₂ (λ d r. record { down = d; right = r }) (zero-*ℤ (pos f)) (zero-*ℤ (pos f))

-- so the fields of all levels are still
pub record StillField (f : VectorField) : Type 0 where
  pub at : (row column : ℕ) → f row column ≡ still

coarsest-still : (l : Level) (p : Pair) → AtRest p → StillField (coarsest l p)
unfolding coarsest
coarsest-still l p rest = record { at = λ row column. still-found p rest l.squared (level_tile l row column) }

finer-still : (l : Level) (s : Step) (rows columns : ℕ) (p : Pair) (coarse : VectorField) → AtRest p → StillField coarse → StillField (finer l s rows columns p coarse)
unfolding finer from_coarse
finer-still l s rows columns p coarse rest none =
    record {
      at = λ row column.
          let t = level_tile l row column in
          let scaled : (a b : ℕ) → coarse a b times s.factor ≡ still = λ a b. still-times s.factor (none.at a b) in
          ap (best_vector l.squared p t) (guess-still p rest t (scaled _ _) (scaled _ _) (scaled _ _)) ∙ still-found p rest l.squared t;
    }

module _ (side : ℕ) (p : ℕ → Pair) (rest : (k : ℕ) → AtRest (p k)) where
  pub field-still : StillField (field0 side p)
  unfolding field0 field1 field2 field3
  field-still =
      finer-still (finest_level side) (finest_step side) _ _ (p 0) _ (rest 0)
      (finer-still level1 step2to1 _ _ (p 1) _ (rest 1) (finer-still level2 step3to2 _ _ (p 2) _ (rest 2) (coarsest-still level3 (p 3) (rest 3))))

  -- where each tile that has not moved has the residual c
  pub sum-still : (c : ℕ) → ((row column : ℕ) → residual (finest_level side).squared (p 0) (level_tile (finest_level side) row column) still ≡ c) → residual_sum side p ≡ level_rows (finest_level side) (p 0) * level_columns (finest_level side) (p 0) * c
  unfolding residual_sum residuals
  sum-still c e =
      sum_same (level_rows (finest_level side) (p 0) * level_columns (finest_level side) (p 0)) c _
      (λ k h. ap (residual (finest_level side).squared (p 0) _) (field-still.at (k / level_columns (finest_level side) (p 0)) (k % level_columns (finest_level side) (p 0))) ∙ e _ _)

-- the words of still fields
part_none : (k : ℕ) → part k still ≡ pos 0
unfolding part
part_none zero = refl
part_none (suc k) = refl

word_none : (columns : ℕ) (f : VectorField) → StillField f → (k : ℕ) → word columns f k ≡ pos 0
unfolding word
word_none columns f none k = ap (part (k % 2)) (none.at (k / 2 / columns) (k / 2 % columns)) ∙ part_none (k % 2)

pub vectors-still : (s : Shape) (reference : ℕ) (samples : List ℕ) → Allowed s → ((k : ℕ) → k < s.count - 1 → StillField (field_of s reference samples k)) →
    aligned_vectors s reference samples ≡ replicate (vector_length s) (pos 0)
unfolding aligned_vectors vector_list word_of vector_length
vectors-still s reference samples ok still-of =
    tab-ext (vector_length s) _ _
    (λ i h. word_none _ _ (still-of (i / frame_parts s) (row_inside i _ (s.count - 1) (omega (arith, mul_comm (s.count - 1) (frame_parts s))))) (i % frame_parts s))
    ∙ tab-const (pos 0) (vector_length s)

-- two images that read the same everywhere
pub record Equal (p : Pair) : Type 0 where
  pub at : (row column : ℤ) → p.reference row column ≡ p.other row column

pub sum_n-zero : (n : ℕ) (f : ℕ → ℕ) → ((i : ℕ) → i < n → f i ≡ 0) → sum_n n f ≡ 0
sum_n-zero n f h = sum_same n 0 f h ∙ omega arith

pub difference-same : (squared : Bool) (a : ℕ) → difference squared a a ≡ 0
unfolding difference
difference-same true a = let none : gap a a ≡ 0 = omega arith in rw none
difference-same false a = omega arith

module _ (p : Pair) (same : Equal p) where
  pub still-residual : (squared : Bool) (t : Tile) → residual squared p t still ≡ 0
  unfolding residual row_residual
  still-residual squared t =
      sum_n-zero t.side _
      (λ i h. sum_n-zero t.side _
      (λ j k.
      let row = t.origin.down +ℤ pos i in
      let column = t.origin.right +ℤ pos j in
      ap₂ (λ r c. difference squared (p.reference row column) (p.other r c)) (+ℤ_idr row) (+ℤ_idr column)
      ∙ ap (λ x. difference squared x (p.other row column)) (same.at row column)
      ∙ difference-same squared (p.other row column)))

  pub equal_rest : AtRest p
  equal_rest = record { least = λ squared t v. omega (arith, still-residual squared t) }
