-- Weights, words that are weighed, and the windowed sum of the four tiles over a sample, term by term.
use Rattle.std.specs.Prelude.{◌≡◌, ◌+◌, ◌*◌, ◌/◌, ◌%◌, ◌≤◌, ◌<◌}
use Rattle.merge_gather.specs.Prelude.{refl, sym, ap, subst, ◌∙◌, List, ℕ, arith, set, get_or, tab, TileSide, windows, window16, side16, windows32, window32, side32, side_of, taken_most}
use native.Mathlib.Nat.{mul-le-mul}
use lib.Dec.{leb, leb→le}
use lib.IntN.{ℤ, pos, nat_abs, ◌+ℤ◌, ◌*ℤ◌, +ℤ_idl}
use lib.ListN.{length, drop, get_or-append}
use Rattle.algebra.specs.Test.{all_sound}
use Rattle.algebra.specs.Sums.{sum_z}
use Rattle.sequences.specs.TabLaws.{length-tab, get_d-tab, Filled, fill-turn}
use Rattle.recipe.specs.SideLaws.{by-table}
use Rattle.merge_gather.specs.declared.Span.{Span}
use Rattle.merge_gather.specs.Gather.{window_table, weight_of, Weights, windowed, corrected, word_over}
use Rattle.merge_tiles.specs.Places.{by_side}
use Rattle.merge_gather.specs.Work.{weight_most, Words, Weighed}

short : (j : ℕ) → j < 16 → j < length windows
unfolding windows
short j h = h

module _ {n : ℕ} (t : TileSide n) where
  pub half_is : (side_of n).half ≡ n / 2
  unfolding side16 side32
  half_is = by-table t (λ n s. s.half ≡ n / 2) refl refl

  -- the table that code holds
  pub window-at : (j : ℕ) → j < n → get_or (window_table n) j 0 ≡ (side_of n).window j
  unfolding window_table side16 side32 window16 window32
  window-at = by-table t (λ n s. (j : ℕ) → j < n → get_or (window_table n) j 0 ≡ s.window j) (λ j h. get_or-append windows (tab 16 (λ _. 0)) 0 j (short j h)) (λ j h. refl)

  window-most : (i : ℕ) → i < n → (side_of n).window i ≤ 4096
  unfolding side16 side32 window16 windows window32 windows32
  window-most =
      by-table t (λ n s. (i : ℕ) → i < n → s.window i ≤ 4096) (λ i h. leb→le (window16 i) 4096 (all_sound 16 (λ i. leb (window16 i) 4096) tt i h))
      (λ i h. leb→le (window32 i) 4096 (all_sound 32 (λ i. leb (window32 i) 4096) tt i h))

  pub weight-most : (i j : ℕ) → i < n → j < n → (side_of n).window i * (side_of n).window j ≤ weight_most
  weight-most i j h k = mul-le-mul {n₁ = (side_of n).window i} {m₁ = (side_of n).window j} {n₂ = 4096} {m₂ = 4096} (window-most i h) (window-most j k)

  pub corrected-any : (t0 : ℕ) (sum : ℤ) (others : ℕ) → corrected side16 t0 sum others ≡ corrected (side_of n) t0 sum others
  unfolding corrected side16 side32
  corrected-any t0 sum others = by-table t (λ n s. corrected side16 t0 sum others ≡ corrected s t0 sum others) refl refl

-- two more weights of a row, which are the same
pub weights-turn : (n i j : ℕ) {l r : List ℤ} {v : ℤ} → Filled (weight_of n i) 64 (2 * j) l r → j < 32 → v ≡ pos ((side_of n).window i * (side_of n).window j) → Filled (weight_of n i) 64 (2 * (j + 1)) l (set (set r (2 * j) v) (2 * j + 1) v)
weights-turn n i j {l} {r} {v} w h e =
    let first : j ≡ 2 * j / 2 = omega arith in
    let second : j ≡ (2 * j + 1) / 2 = omega arith in
    subst (λ m. Filled (weight_of n i) 64 m l (set (set r (2 * j) v) (2 * j + 1) v)) (omega arith)
    (fill-turn (fill-turn w (omega arith) (e ∙ ap (λ k. pos ((side_of n).window i * (side_of n).window k)) first)) (omega arith) (e ∙ ap (λ k. pos ((side_of n).window i * (side_of n).window k)) second))

pub weights-done : (n i : ℕ) {l r : List ℤ} → Filled (weight_of n i) 64 (2 * n) l r → Weights n i r
weights-done n i {l} {r} w =
    record {
      at = λ k h. ap (λ z. get_or z k (pos 0)) w.is ∙ get_or-append (tab (2 * n) (weight_of n i)) (drop (2 * n) l) (pos 0) k (rw (length-tab (weight_of n i) (2 * n)) h) ∙ get_d-tab (weight_of n i) (pos 0) (2 * n) k h;
    }

-- words from a later place on
pub words-later : {work : List ℤ} {at n : ℕ} (k m : ℕ) → Words work at n → k + m ≤ n → Words work (at + k) m
words-later {work} {at} k m w h =
    record {
      room = omega (arith, w.room);
      most = λ j l. subst (λ p. nat_abs (get_or work p (pos 0)) ≤ taken_most) (omega arith) (w.most (k + j) (omega arith));
    }

pub weight-small : {n : ℕ} → TileSide n → (i l : ℕ) {weights : List ℤ} → Weights n i weights → i < n → l < 2 * n → nat_abs (get_or weights l (pos 0)) ≤ weight_most
weight-small {n} t i l w h k = subst (λ z. nat_abs z ≤ weight_most) (sym (w.at l k)) (weight-most t i (l / 2) h (omega arith))

-- places of a block
module _ {n : ℕ} (t : TileSide n) where
  pub side-most : n ≤ 32
  side-most = by_side t (λ n. n ≤ 32) (omega arith) (omega arith)

  pub square-most : n * n ≤ 1024
  square-most = by_side t (λ n. n * n ≤ 1024) (omega arith) (omega arith)

  pub half_above : 0 < n / 2
  half_above = by_side t (λ n. 0 < n / 2) (omega arith) (omega arith)

  pub upper-below : (i : ℕ) → i < n / 2 → i + n / 2 < n
  upper-below = by_side t (λ n. (i : ℕ) → i < n / 2 → i + n / 2 < n) (λ i h. omega arith) (λ i h. omega arith)

  column-half : (l : ℕ) → (l + n) / 2 ≡ l / 2 + 1 * (n / 2)
  column-half = by_side t (λ n. (l : ℕ) → (l + n) / 2 ≡ l / 2 + 1 * (n / 2)) (λ l. omega arith) (λ l. omega arith)

  first_block : (l : ℕ) → l < n → l / n ≡ 0
  first_block = by_side t (λ n. (l : ℕ) → l < n → l / n ≡ 0) (λ l h. omega arith) (λ l h. omega arith)

  in_block : (l : ℕ) → l < n → l % n ≡ l
  in_block = by_side t (λ n. (l : ℕ) → l < n → l % n ≡ l) (λ l h. omega arith) (λ l h. omega arith)

  pub block-column : (l : ℕ) → l < n → l / 2 % (n / 2) ≡ l / 2
  block-column = by_side t (λ n. (l : ℕ) → l < n → l / 2 % (n / 2) ≡ l / 2) (λ l h. omega arith) (λ l h. omega arith)

  pub part_room : 16 ≤ n
  part_room = by_side t (λ n. 16 ≤ n) (omega arith) (omega arith)

  pub wide_is : (n ≡ 16 → ⊥) → n ≡ 32
  wide_is = by_side t (λ n. (n ≡ 16 → ⊥) → n ≡ 32) (λ h. absurd (h refl)) (λ h. refl)

  pub place-most : (y : ℕ) → n * (y % (n / 2) + n / 2) ≤ 1024
  place-most = by_side t (λ n. (y : ℕ) → n * (y % (n / 2) + n / 2) ≤ 1024) (λ y. omega arith) (λ y. omega arith)

  pub quotient-most : (y : ℕ) → y / (n / 2) ≤ y
  quotient-most = by_side t (λ n. (y : ℕ) → y / (n / 2) ≤ y) (λ y. omega arith) (λ y. omega arith)

  pub row-in-half : (y : ℕ) → y % (n / 2) < n / 2
  row-in-half = by_side t (λ n. (y : ℕ) → y % (n / 2) < n / 2) (λ y. omega arith) (λ y. omega arith)

  pub columns-most : (column : ℕ) → column < 256 → n * column ≤ 8192
  columns-most = by_side t (λ n. (column : ℕ) → column < 256 → n * column ≤ 8192) (λ c h. omega arith) (λ c h. omega arith)

  pub halves_most : (words : ℕ) → words ≤ 8192 → 2 * n * words ≤ 524288
  halves_most = by_side t (λ n. (words : ℕ) → words ≤ 8192 → 2 * n * words ≤ 524288) (λ c h. omega arith) (λ c h. omega arith)

  pub blocks-most : (width : ℕ) → width ≤ 4096 → width / n ≤ 256
  blocks-most = by_side t (λ n. (width : ℕ) → width ≤ 4096 → width / n ≤ 256) (λ w h. omega arith) (λ w h. omega arith)

  pub blocks-whole : (width : ℕ) → width % 64 ≡ 0 → n * (width / n) ≡ width
  blocks-whole = by_side t (λ n. (width : ℕ) → width % 64 ≡ 0 → n * (width / n) ≡ width) (λ w h. omega arith) (λ w h. omega arith)

  pub block_room : (width column : ℕ) → column < width / n → n * column + n ≤ width
  block_room = by_side t (λ n. (width column : ℕ) → column < width / n → n * column + n ≤ width) (λ w c h. omega arith) (λ w c h. omega arith)

  -- what a block reads lies in its row of pairs
  pub later-room : (width y column : ℕ) → column < width / n → n * (y % (n / 2) + n / 2) + 2 * n * (n * column) + n * n + n ≤ 2 * n * width
  later-room = by_side t (λ n. (width y column : ℕ) → column < width / n → n * (y % (n / 2) + n / 2) + 2 * n * (n * column) + n * n + n ≤ 2 * n * width) (λ w y c h. omega arith) (λ w y c h. omega arith)

  -- the block of a word, and the word in it
  pub block_of : (column l : ℕ) → l < n → (n * column + l) / n ≡ column
  block_of = by_side t (λ n. (column l : ℕ) → l < n → (n * column + l) / n ≡ column) (λ c l h. omega arith) (λ c l h. omega arith)

  pub word-of-block : (column l : ℕ) → l < n → (n * column + l) % n ≡ l
  word-of-block = by_side t (λ n. (column l : ℕ) → l < n → (n * column + l) % n ≡ l) (λ c l h. omega arith) (λ c l h. omega arith)

  pub column-of : (column l : ℕ) → l / 2 % (n / 2) ≡ (n * column + l) / 2 % (n / 2)
  column-of = by_side t (λ n. (column l : ℕ) → l / 2 % (n / 2) ≡ (n * column + l) / 2 % (n / 2)) (λ c l. omega arith) (λ c l. omega arith)

  module _ (l : ℕ) (h : l < n) where
    pub block-first : l / n ≡ 0
    block-first = first_block l h

    pub block-word : l % n ≡ l
    block-word = in_block l h

module _ {work lower upper : List ℤ} {p : Span} (w : Weighed work p lower upper) (l : ℕ) (h : l < p.side) where
  pub windowed-four : {a b c d : ℤ} → a ≡ get_or lower l (pos 0) *ℤ get_or work (p.below + l) (pos 0) → b ≡ get_or lower (l + p.side) (pos 0) *ℤ get_or work (p.below + p.side * p.side + l) (pos 0)
      → c ≡ get_or upper l (pos 0) *ℤ get_or work (p.above + l) (pos 0) → d ≡ get_or upper (l + p.side) (pos 0) *ℤ get_or work (p.above + p.side * p.side + l) (pos 0)
      → a +ℤ b +ℤ c +ℤ d ≡ windowed (side_of p.side) p.i (l / 2) (word_over work p l)
  unfolding windowed word_over sum_z
  windowed-four a b c d =
      rw (
        a,
        b,
        c,
        d,
        w.lower_weights.at l small,
        w.lower_weights.at (l + p.side) large,
        w.upper_weights.at l small,
        w.upper_weights.at (l + p.side) large,
        +ℤ_idl,
        half_is w.sided,
        column-half w.sided l,
        block-first w.sided l h,
        block-word w.sided l h,
        none p.i,
        none (l / 2),
        one,
        later p.below,
        later p.above,
        earlier p.below,
        earlier p.above,
      )
    where
      small : l < 2 * p.side
      small = omega arith

      large : l + p.side < 2 * p.side
      large = omega arith

      none : (a : ℕ) → a + 0 * (p.side / 2) ≡ a
      none a = omega arith

      one : p.i + 1 * (p.side / 2) ≡ p.i + p.side / 2
      one = omega arith

      later : (a : ℕ) → a + (p.side * p.side * (2 * 0 + 0) + l) ≡ a + l
      later a = omega arith

      earlier : (a : ℕ) → a + (p.side * p.side * (2 * 0 + 1) + l) ≡ a + p.side * p.side + l
      earlier a = omega arith
