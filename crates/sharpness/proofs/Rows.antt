-- How the sums of words, blocks and rows that the code takes make up the definition's.
use Rattle.std.specs.Prelude.{◌≡◌, ◌+◌, ◌-◌, ◌*◌, ◌<◌}
use Rattle.sharpness.specs.Prelude.{refl, sym, ap, ap₂, ◌∙◌, List, ℕ, arith, get_or, sum_n, Image, plane_of}
use native.Mathlib.Nat.{zero-add, add_comm, mul-zero}
use native.Mathlib.Numerals.{add-one}
use Rattle.algebra.specs.SumLaws.{sum_n-add, sum_n-cong, sum_n-const, sum_n-rows}
use Rattle.sequences.specs.Tab.{tab}
use Rattle.sequences.specs.TabLaws.{get_d-tab}
use Rattle.sharpness.specs.Sharpness.{step, row_steps, steps}
use Rattle.sharpness.specs.Words.{word_steps, place_steps, lane_of, green_total, last_step, both_steps}

-- a loop takes two terms for each of n, and one for the last
joined : (n : ℕ) (f g : ℕ → ℕ) → sum_n n (λ k. f k + g k) + g n ≡ sum_n n f + sum_n (n + 1) g
unfolding sum_n
joined n f g = rw (add-one n) (omega (arith, sum_n-add n f g))

-- sixteen places of a block
pub block-sum : (f : ℕ → ℕ) (block : ℕ) {lanes : List ℕ} → lanes ≡ tab 16 (lane_of f (32 * block)) → green_total lanes ≡ sum_n 16 (λ j. f (2 * (block * 16 + j) + 1))
unfolding green_total sum_n
block-sum f block {lanes} e =
    let place : ℕ → ℕ = λ j. f (2 * (block * 16 + j) + 1) in
    sum_n-cong 8 (λ j. get_or lanes (2 * j + 1) 0) (λ j. place (0 * 8 + j) + place (1 * 8 + j))
    (λ j h.
    ap (λ l. get_or l (2 * j + 1) 0) e
    ∙ get_d-tab (lane_of f (32 * block)) 0 16 (2 * j + 1) (omega arith)
    ∙ ap₂ (λ a b. f a + f b) (omega arith) (omega arith))
    ∙ sum_n-add 8 (λ j. place (0 * 8 + j)) (λ j. place (1 * 8 + j))
    ∙ ap (λ n. n + sum_n 8 (λ j. place (1 * 8 + j))) (sym (zero-add (sum_n 8 (λ j. place (0 * 8 + j)))))
    ∙ sym (sum_n-rows 2 8 place)

same_word : (frame : Image) {a b c d : ℕ} → a ≡ b → c ≡ d → frame a c ≡ frame b d
same_word frame p q = ap₂ frame p q

module _ (frame : Image) (width row down : ℕ) (some : 0 < width) where
  abbrev plane : Image
  plane = plane_of frame 0 1

  to-right : ℕ → ℕ
  to-right column = step (plane row column) (plane (row + 0) (column + 1))

  to_below : ℕ → ℕ
  to_below column = step (plane row column) (plane (row + down) (column + 0))

  place_is : (k : ℕ) → place_steps frame row down k ≡ to-right k + to_below k
  unfolding plane_of word_steps to-right to_below
  place_is k =
      let here : frame (2 * row) (2 * k + 1) ≡ frame (2 * row + 0) (2 * k + 1) = same_word frame (omega arith) refl in
      let right : frame (2 * row) (2 * k + 1 + 2) ≡ frame (2 * (row + 0) + 0) (2 * (k + 1) + 1) = same_word frame (omega arith) (omega arith) in
      let below : frame (2 * (row + down)) (2 * k + 1) ≡ frame (2 * (row + down) + 0) (2 * (k + 0) + 1) = same_word frame (omega arith) (omega arith) in
      ap₂ ◌+◌ (ap₂ step here right) (ap₂ step here below)

  last-is : last_step frame width row down ≡ to_below (width - 1)
  unfolding plane_of last_step to_below
  last-is =
      let here : frame (2 * row) (2 * (width - 1) + 1) ≡ frame (2 * row + 0) (2 * (width - 1) + 1) = same_word frame (omega arith) refl in
      let below : frame (2 * (row + down)) (2 * (width - 1) + 1) ≡ frame (2 * (row + down) + 0) (2 * (width - 1 + 0) + 1) = same_word frame (omega arith) (omega arith) in
      ap₂ step here below

  -- all places of a row
  pub row-sum : {sum last : ℕ} → sum ≡ sum_n (width - 1) (place_steps frame row down) → last ≡ last_step frame width row down → sum + last ≡ both_steps width down plane row
  unfolding row_steps to-right to_below
  row-sum e l =
      let all : width - 1 + 1 ≡ width - 0 = omega arith in
      ap₂ ◌+◌ (e ∙ sum_n-cong (width - 1) (place_steps frame row down) (λ k. to-right k + to_below k) (λ k h. place_is k)) (l ∙ last-is)
      ∙ joined (width - 1) to-right to_below
      ∙ ap (λ n. sum_n (width - 1) to-right + sum_n n to_below) all
      ∙ add_comm (sum_n (width - 1) to-right) (sum_n (width - 0) to_below)

-- no row down, no step
none : (a b : ℕ) → b ≡ a → step a b ≡ 0
none a b e = omega arith

still : (width : ℕ) (plane : Image) (row : ℕ) → row_steps width 0 0 plane row ≡ 0
unfolding row_steps
still width plane row =
    sum_n-cong (width - 0) (λ k. step (plane row k) (plane (row + 0) (k + 0))) (λ k. 0) (λ k h. none (plane row k) (plane (row + 0) (k + 0)) (same_word plane (omega arith) (omega arith)))
    ∙ sum_n-const (width - 0) 0
    ∙ mul-zero (width - 0)

-- all rows of a plane
pub rows-sum : {sum last : ℕ} (height width : ℕ) (plane : Image) → 0 < height → sum ≡ sum_n (height - 1) (both_steps width 1 plane) → last ≡ both_steps width 0 plane (height - 1)
    → sum + last ≡ steps height width 0 1 plane + steps height width 1 0 plane
unfolding steps
rows-sum {sum} {last} height width plane h e l =
    let all : height - 1 + 1 ≡ height - 0 = omega arith in
    let only : last ≡ row_steps width 0 1 plane (height - 1) = omega (arith, l, still width plane (height - 1)) in
    ap₂ ◌+◌ e only
    ∙ joined (height - 1) (row_steps width 1 0 plane) (row_steps width 0 1 plane)
    ∙ ap (λ n. sum_n (height - 1) (row_steps width 1 0 plane) + sum_n n (row_steps width 0 1 plane)) all
    ∙ add_comm (sum_n (height - 1) (row_steps width 1 0 plane)) (sum_n (height - 0) (row_steps width 0 1 plane))
