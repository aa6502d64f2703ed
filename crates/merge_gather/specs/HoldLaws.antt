-- Inside the crates of the merge and of the range: where two rows of pairs of tiles that are held have what the four tiles over a word of the frame take from it.
use Rattle.std.specs.Prelude.{◌≡◌, ◌⊎◌, ◌+◌, ◌-◌, ◌*◌, ◌/◌, ◌%◌, ◌≤◌, ◌<◌}
use Rattle.std.proofs.Math.Path.{ap}
use Rattle.std.proofs.Common.{◌∙◌, inl, inr, ⊎_elim}
use Rattle.merge_gather.specs.Prelude.{List, ℕ, zero, suc, arith, get_or, ℤ, pos, Shape, AllowedSize, TileSide, Taking, row_words, slot_of, half_word, row_word}
use Rattle.std.proofs.Math.Decide.{ℕ_discrete}
use Rattle.geometry.specs.Read.{sample_at, plane_of}
use Rattle.geometry.specs.ReadLaws.{index-frame}
use Rattle.merge_gather.specs.declared.Span.{Span}
use Rattle.merge_gather.specs.Gather.{start_of, word_over}
use Rattle.merge_gather.specs.Work.{row_span}
use Rattle.merge_tiles.specs.Places.{by_side, half_of, row_of, word-of, place-in}
use Rattle.merge_gather.specs.RowsHeld.{RowHeld}

-- the places of a row and of the next one: one row's words are those before the other's
pub slots : (side width row : ℕ) → ((slot_of side width row ≡ 0) × (slot_of side width (row + 1) ≡ row_words side width)) ⊎ ((slot_of side width row ≡ row_words side width) × (slot_of side width (row + 1) ≡ 0))
unfolding slot_of
slots side width row = by (ℕ_discrete (row % 2) 0)
  where
    by : Dec (row % 2 ≡ 0) → ((slot_of side width row ≡ 0) × (slot_of side width (row + 1) ≡ row_words side width)) ⊎ ((slot_of side width row ≡ row_words side width) × (slot_of side width (row + 1) ≡ 0))
    by (yes e) =
        let next : (row + 1) % 2 ≡ 1 = omega arith in
        inl (rw e (omega arith), rw next (omega arith))
    by (no d) =
        let this : row % 2 ≡ 1 = omega arith in
        let next : (row + 1) % 2 ≡ 0 = omega arith in
        inr (rw this (omega arith), rw next (omega arith))

-- either place lies in the two
pub slot-room : (side width row : ℕ) {n : ℕ} → 2 * row_words side width ≤ n → slot_of side width row + row_words side width ≤ n
slot-room side width row room = ⊎_elim (λ e. omega (arith, e)) (λ e. omega (arith, e)) (slots side width row)

-- a word of the frame's row, by its block
module _ {n : ℕ} (t : TileSide n) where
  block-below : (width c : ℕ) → width % 64 ≡ 0 → c < width → c / n < width / n
  block-below = by_side t (λ n. (width c : ℕ) → width % 64 ≡ 0 → c < width → c / n < width / n) (λ w c a b. omega arith) (λ w c a b. omega arith)

  word-below : (c : ℕ) → c % n < n
  word-below = by_side t (λ n. (c : ℕ) → c % n < n) (λ c. omega arith) (λ c. omega arith)

  word-parity : (c : ℕ) → c % n % 2 ≡ c % 2
  word-parity = by_side t (λ n. (c : ℕ) → c % n % 2 ≡ c % 2) (λ c. omega arith) (λ c. omega arith)

  pair_is : (c : ℕ) → c / n ≡ c / 2 / (n / 2)
  pair_is = by_side t (λ n. (c : ℕ) → c / n ≡ c / 2 / (n / 2)) (λ c. omega arith) (λ c. omega arith)

  column-is : (c : ℕ) → c % n / 2 ≡ c / 2 % (n / 2)
  column-is = by_side t (λ n. (c : ℕ) → c % n / 2 ≡ c / 2 % (n / 2)) (λ c. omega arith) (λ c. omega arith)

  row_in : (y u : ℕ) → u < 2 → y % (n / 2) + u * (n / 2) < n
  row_in = by_side t (λ n. (y u : ℕ) → u < 2 → y % (n / 2) + u * (n / 2) < n) (λ y u h. omega arith) (λ y u h. omega arith)

-- what tile t over the sample at row y and column x of a plane has at it, where tiles stand `half` apart
abbrev pub taken_over : Taking → (half rowParity columnParity y x t : ℕ) → ℤ
taken_over taken half rowParity columnParity y x t = taken rowParity columnParity (y / half + 1 - t / 2) (x / half + 1 - t % 2) (y % half + t / 2 * half) (x % half + t % 2 * half)

module _ (shape : Shape) (reference : ℕ) (taken : Taking) (rowParity : ℕ) (work : List ℤ) (y top c : ℕ) where
  abbrev n : ℕ
  n = shape.side

  abbrev span : Span
  span = row_span shape reference rowParity y top

  pub sample-is : (samples : List ℕ) → get_or samples (span.from + c) 0 ≡ plane_of (sample_at shape samples reference) rowParity (c % 2) y (c / 2)
  unfolding row_span plane_of sample_at
  sample-is samples = ap (λ n. get_or samples n 0) (omega (arith, index-frame shape reference (2 * y + rowParity) (2 * (c / 2) + c % 2)))

  module _ (sided : TileSide n) (ok : AllowedSize shape.width) (inside : c < shape.width) (upper : RowHeld n shape.width taken rowParity (y / (n / 2)) work) (lower : RowHeld n shape.width taken rowParity (y / (n / 2) + 1) work) where
    held-over : (u : ℕ) → u < 2 → RowHeld n shape.width taken rowParity (y / (n / 2) + 1 - u) work
    held-over zero h = let e : y / (n / 2) + 1 - 0 ≡ y / (n / 2) + 1 = omega arith in rw e lower
    held-over (suc zero) h = let e : y / (n / 2) + 1 - 1 ≡ y / (n / 2) = omega arith in rw e upper
    held-over (suc (suc u)) h = absurd (omega arith)

    start-over : (u : ℕ) → u < 2 → start_of span u ≡ slot_of n shape.width (y / (n / 2) + 1 - u) + n * (y % (n / 2) + u * (n / 2))
    unfolding row_span
    start-over zero h =
        let e : y / (n / 2) + 1 - 0 ≡ y / (n / 2) + 1 = omega arith in
        let f : y % (n / 2) + 0 * (n / 2) ≡ y % (n / 2) = omega arith in
        rw (e, f)
    start-over (suc zero) h =
        let e : y / (n / 2) + 1 - 1 ≡ y / (n / 2) = omega arith in
        let f : y % (n / 2) + 1 * (n / 2) ≡ y % (n / 2) + n / 2 = omega arith in
        rw (e, f)
    start-over (suc (suc u)) h = absurd (omega arith)

    -- a word of a row that is held: of half u of the two over its block
    half-held : {row : ℕ} → RowHeld n shape.width taken rowParity row work → (i u : ℕ) → i < n → u < 2
        → get_or work (slot_of n shape.width row + (n * n * (2 * (c / n) + u) + (n * i + c % n))) (pos 0) ≡ taken rowParity (c % 2) row (c / n + 1 - u) i (c % n / 2 + u * (n / 2))
    unfolding row_words row_word half_word
    half-held {row} held i u hi hu =
        let h = 2 * (c / n) + u in
        let layer : h % 2 ≡ u = omega arith in
        let block : h / 2 ≡ c / n = omega arith in
        let below : h < 2 * (shape.width / n) = omega (arith, block-below sided shape.width c ok.whole inside) in
        held.is (n * n * h + (n * i + c % n)) (place-in sided shape.width ok.whole h i (c % n) below hi (word-below sided c))
        ∙ rw (half_of sided h i (c % n) hi (word-below sided c), row_of sided h i (c % n) hi (word-below sided c), word-of sided h i (c % n) hi (word-below sided c), word-parity sided c, layer, block)

    pub word-is : (t : ℕ) → t < 4 → word_over work span c t ≡ taken_over taken (n / 2) rowParity (c % 2) y (c / 2) t
    unfolding word_over row_span
    word-is t h =
        ap (λ k. get_or work k (pos 0)) (omega (arith, start-over (t / 2) (omega arith)))
        ∙ half-held (held-over (t / 2) (omega arith)) (y % (n / 2) + t / 2 * (n / 2)) (t % 2) (row_in sided y (t / 2) (omega arith)) (omega arith)
        ∙ rw (pair_is sided c, column-is sided c)
