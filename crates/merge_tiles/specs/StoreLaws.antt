-- Inside the crates of the merge: lines stored one after the other, and a row of pairs stored pair by pair: its record, and how it starts, goes on and ends.
use Rattle.std.specs.Prelude.{◌≡◌, ◌+◌, ◌-◌, ◌*◌, ◌/◌, ◌%◌, ◌≤◌, ◌<◌}
use Rattle.merge_tiles.specs.Prelude.{refl, sym, ap, subst, ◌∙◌, Bool, true, false, List, ℕ, zero, suc, arith, ltb, length, get_or, ℤ, pos, nat_abs, TileSide, Scene, side_by_side}
use Rattle.std.proofs.Common.{below_none, below_more, ltb-true, ltb-false}
use Rattle.sequences.specs.Grid.{cell, cell-grid}
use Rattle.sequences.specs.Write.{written, written_in, written-length}
use Rattle.merge_tiles.specs.Sum.{taken_in, taken_most, Taking, PairTaken, Taken}
use Rattle.merge_tiles.specs.Toward.{Toward, toward-same, toward-on, written-right, written-toward, goal, toward-written}
use Rattle.merge_tiles.specs.Rows.{row_words, slot_of, half_word, row_word, Stored, Fits, Spread}
use Rattle.merge_tiles.specs.Places.{half_of, row_of, word-of, whole_word, row_in, word_in, half-in, place-in, half-parity, half-column, half-below}

module _ {P : Type 0} {f : ℕ → ℕ → ℤ} {at step n : ℕ} {d : List ℤ} where
  pub spread-start : Spread P f at step n 0 d d
  spread-start = record { same = refl; toward = λ g e. toward-same; right = λ p g e i j h k. absurd (omega arith) }

  -- one more line
  pub spread-turn : {count : ℕ} {l r : List ℤ} → P → Spread P f at step n count d l → at + step * count + n ≤ length l → r ≡ written l (at + step * count) (f count) n → Spread P f at step n (count + 1) d r
  spread-turn {count} {l} {r} p w room is =
      record {
        same = ap length is ∙ written-length l (at + step * count) (f count) n (pos 0) room ∙ w.same;
        toward = λ g e. toward-on (w.toward g (λ q i j h k. e q i j (omega arith) k)) (line g (e p));
        right = λ q g e i j h k. stands g e i j h k (ltb i count) refl;
      }
    where
      line : (g : ℕ → ℤ) → Fits f at step n (count + 1) g → Toward (pos 0) g l r
      line g e = subst (Toward (pos 0) g l) (sym is) (written-toward (pos 0) g l (at + step * count) (f count) n room (λ j k. e count j (omega arith) k))

      stands : (g : ℕ → ℤ) → Fits f at step n (count + 1) g → (i j : ℕ) → i < count + 1 → j < n → (t : Bool) → ltb i count ≡ t → get_or r (at + step * i + j) (pos 0) ≡ g (at + step * i + j)
      stands g e i j h k true t = (line g e).keeps (at + step * i + j) (w.right p g (λ a b x y. e a b (omega arith) y) i j (ltb-true i count t) k)
      stands g e i j h k false t =
          let this : i ≡ count = omega (arith, ltb-false i count t) in
          subst (λ i. get_or r (at + step * i + j) (pos 0) ≡ g (at + step * i + j)) (sym this)
          (ap (λ x. get_or x (at + step * count + j) (pos 0)) is ∙ written-right (pos 0) g l (at + step * count) (f count) n room (λ j k. e count j (omega arith) k) j k)

-- lines that are stored are so if P holds; where it does not, nothing is
module _ {P : Type 0} {f : ℕ → ℕ → ℤ} {at step n count : ℕ} {d l : List ℤ} where
  pub spread-when : P → Spread (Unit {0}) f at step n count d l → Spread P f at step n count d l
  spread-when p w = record { same = w.same; toward = λ g e. w.toward g (λ q. e p); right = λ q g e. w.right tt g e }

  pub spread-unless : (P → ⊥) → l ≡ d → Spread P f at step n count d l
  spread-unless out is = record { same = ap length is; toward = λ g e. subst (Toward (pos 0) g d) (sym is) toward-same; right = λ p. absurd (out p) }

-- what is taken from a pair
abbrev pair_at : Taking → (rowParity row column i l : ℕ) → ℤ
pair_at taken rowParity row column = side_by_side (λ p. taken rowParity p row column)

-- g has a row's words from `start` on
pub record Aimed (side width : ℕ) (taken : Taking) (rowParity row start : ℕ) (g : ℕ → ℤ) : Type 0 where
  pub at : (k : ℕ) → k < row_words side width → g (start + k) ≡ row_word side taken rowParity row k

-- l has the first n pairs of the row there
pub record Placed (side width : ℕ) (taken : Taking) (rowParity row start n : ℕ) (l : List ℤ) : Type 0 where
  pub count : n ≤ width / side + 1
  pub right : (h i j : ℕ) → h < 2 * (width / side) → i < side → j < side → h / 2 + 1 - h % 2 < n →
      get_or l (start + (side * side * h + (side * i + j))) (pos 0) ≡ half_word side taken rowParity row h i j
  pub most : (b : ℕ) → b < n → (i l : ℕ) → i < side → l < 2 * side → nat_abs (pair_at taken rowParity row b i l) ≤ taken_most

module _ (side width : ℕ) (taken : Taking) (rowParity row start : ℕ) where
  pub placed-start : {l : List ℤ} → Placed side width taken rowParity row start 0 l
  placed-start =
      record {
        count = omega arith;
        right = λ h i j a b c k. absurd (omega arith);
        most = below_none (λ b. (i l : ℕ) → i < side → l < 2 * side → nat_abs (pair_at taken rowParity row b i l) ≤ taken_most);
      }

  module _ (sided : TileSide side) (wide : width % 64 ≡ 0) where
    -- a word of a pair, by its half
    pair-word : (b i u block j : ℕ) → u < 2 → b + u ≡ block + 1 → pair_at taken rowParity row b i (side * u + j) ≡ half_word side taken rowParity row (2 * block + u) i j
    unfolding half_word
    pair-word b i u block j hu hb =
        let side_of : (2 * block + u) % 2 ≡ u = omega arith in
        let block_of : (2 * block + u) / 2 ≡ block = omega arith in
        let pair_of : block + 1 - u ≡ b = omega arith in
        rw (half-parity sided u j, half-column sided u j, side_of, block_of, pair_of)

    module _ {g : ℕ → ℤ} (aim : Aimed side width taken rowParity row start g) where
      -- the words aimed at, at a word of a half
      goal-is : (h i j : ℕ) → h < 2 * (width / side) → i < side → j < side → g (start + (side * side * h + (side * i + j))) ≡ half_word side taken rowParity row h i j
      unfolding row_words row_word
      goal-is h i j a b c =
          aim.at (side * side * h + (side * i + j)) (place-in sided width wide h i j a b c)
          ∙ rw (half_of sided h i j b c, row_of sided h i j b c, word-of sided h i j b c)

      -- they stay where the list comes nearer to its words
      pub placed-keep : {n : ℕ} {l r : List ℤ} → Toward (pos 0) g l r → Placed side width taken rowParity row start n l → Placed side width taken rowParity row start n r
      placed-keep t w = record { count = w.count; right = λ h i j a b c k. t.keeps _ (w.right h i j a b c k ∙ sym (goal-is h i j a b c)) ∙ goal-is h i j a b c; most = w.most }

      module _ {n : ℕ} {l mid r : List ℤ} {tile : List (List ℤ)} (w : Placed side width taken rowParity row start n l) (h : n < width / side + 1)
          (sum : PairTaken side taken (record { parity = rowParity; row = row; column = n }) tile)
          (left : Spread (0 < n) (λ i j. cell (pos 0) tile i (0 + j)) (start + 2 * (side * side) * (n - 1)) side side side l mid)
          (right : Spread (n < width / side) (λ i j. cell (pos 0) tile i (side + j)) (start + (2 * (side * side) * n + side * side)) side side side mid r) where
        cell-word : (i k : ℕ) → i < side → k < 2 * side → cell (pos 0) tile i k ≡ pair_at taken rowParity row n i k
        cell-word i k a b = ap (λ x. cell (pos 0) x i k) sum.is ∙ cell-grid (pos 0) side (2 * side) _ i k a b

        left-place : (i j : ℕ) → start + (side * side * (2 * (n - 1) + 0) + (side * i + j)) ≡ start + 2 * (side * side) * (n - 1) + side * i + j
        left-place i j = omega arith

        right-place : (i j : ℕ) → start + (side * side * (2 * n + 1) + (side * i + j)) ≡ start + (2 * (side * side) * n + side * side) + side * i + j
        right-place i j = omega arith

        left-fits : 0 < n → Fits (λ i j. cell (pos 0) tile i (0 + j)) (start + 2 * (side * side) * (n - 1)) side side side g
        left-fits some i j hi hj =
            let place : 0 + j ≡ side * 0 + j = omega arith in
            cell-word i (0 + j) hi (omega arith) ∙ ap (pair_at taken rowParity row n i) place ∙ pair-word n i 0 (n - 1) j (omega arith) (omega arith) ∙ sym (goal-is (2 * (n - 1) + 0) i j (omega arith) hi hj) ∙ ap g (left-place i j)

        right-fits : n < width / side → Fits (λ i j. cell (pos 0) tile i (side + j)) (start + (2 * (side * side) * n + side * side)) side side side g
        right-fits more i j hi hj =
            let place : side + j ≡ side * 1 + j = omega arith in
            cell-word i (side + j) hi (omega arith) ∙ ap (pair_at taken rowParity row n i) place ∙ pair-word n i 1 n j (omega arith) (omega arith) ∙ sym (goal-is (2 * n + 1) i j (omega arith) hi hj) ∙ ap g (right-place i j)

        pub placed-nearer : Toward (pos 0) g l r
        placed-nearer = toward-on (left.toward g left-fits) (right.toward g right-fits)

        -- the words of this pair
        stands : (block u i j : ℕ) → u < 2 → block < width / side → i < side → j < side → block + 1 - u ≡ n
            → get_or r (start + (side * side * (2 * block + u) + (side * i + j))) (pos 0) ≡ g (start + (side * side * (2 * block + u) + (side * i + j)))
        stands block zero i j hu hb hi hj e =
            let some : 0 < n = omega arith in
            let this : n - 1 ≡ block = omega arith in
            subst (λ b. get_or r (start + (side * side * (2 * b + 0) + (side * i + j))) (pos 0) ≡ g (start + (side * side * (2 * b + 0) + (side * i + j)))) this
            ((right.toward g right-fits).keeps _ (subst (λ k. get_or mid k (pos 0) ≡ g k) (sym (left-place i j)) (left.right some g (left-fits some) i j hi hj)))
        stands block (suc zero) i j hu hb hi hj e =
            let more : n < width / side = omega arith in
            let this : n ≡ block = omega arith in
            subst (λ b. get_or r (start + (side * side * (2 * b + 1) + (side * i + j))) (pos 0) ≡ g (start + (side * side * (2 * b + 1) + (side * i + j)))) this
            (subst (λ k. get_or r k (pos 0) ≡ g k) (sym (right-place i j)) (right.right more g (right-fits more) i j hi hj))
        stands block (suc (suc u)) i j hu hb hi hj e = absurd (omega arith)

        pub placed-turn : Placed side width taken rowParity row start (n + 1) r
        placed-turn =
            record {
              count = omega arith;
              right = λ h i j a b c k. by h i j a b c k (ltb (h / 2 + 1 - h % 2) n) refl;
              most = below_more (λ b. (i l : ℕ) → i < side → l < 2 * side → nat_abs (pair_at taken rowParity row b i l) ≤ taken_most) n w.most sum.most;
            }
          where
            by : (h i j : ℕ) → h < 2 * (width / side) → i < side → j < side → h / 2 + 1 - h % 2 < n + 1 → (t : Bool) → ltb (h / 2 + 1 - h % 2) n ≡ t
                → get_or r (start + (side * side * h + (side * i + j))) (pos 0) ≡ half_word side taken rowParity row h i j
            by h i j a b c k true t = placed-nearer.keeps _ (w.right h i j a b c (ltb-true (h / 2 + 1 - h % 2) n t) ∙ sym (goal-is h i j a b c)) ∙ goal-is h i j a b c
            by h i j a b c k false t =
                let half : 2 * (h / 2) + h % 2 ≡ h = omega arith in
                subst (λ x. get_or r (start + (side * side * x + (side * i + j))) (pos 0) ≡ g (start + (side * side * x + (side * i + j)))) half
                (stands (h / 2) (h % 2) i j (omega arith) (omega arith) b c (omega (arith, ltb-false (h / 2 + 1 - h % 2) n t))) ∙ goal-is h i j a b c

    -- the whole row
    module _ {n : ℕ} {l : List ℤ} (w : Placed side width taken rowParity row start n l) (h : width / side + 1 ≤ n) where
      pub placed-word : (k : ℕ) → k < row_words side width → get_or l (start + k) (pos 0) ≡ row_word side taken rowParity row k
      unfolding row_words row_word
      placed-word k b =
          let in_row = half-in sided width wide k b in
          subst (λ x. get_or l (start + x) (pos 0) ≡ row_word side taken rowParity row k) (whole_word sided k)
          (w.right (k / (side * side)) (k % (side * side) / side) (k % side) in_row (row_in sided k) (word_in sided k) (omega (arith, in_row)))

      pub placed-most : (k : ℕ) → k < row_words side width → nat_abs (row_word side taken rowParity row k) ≤ taken_most
      unfolding row_words row_word half_word
      placed-most k b =
          let half = k / (side * side) in
          let in_row : half < 2 * (width / side) = half-in sided width wide k b in
          rw (half-parity sided (half % 2) (k % side), half-column sided (half % 2) (k % side)) at
          (w.most (half / 2 + 1 - half % 2) (omega (arith, in_row)) (k % (side * side) / side) (side * (half % 2) + k % side) (row_in sided k) (half-below sided (half % 2) (k % side) (omega arith) (word_in sided k)))

-- l is d after the first n pairs of a merge's row
pub record Storing (side : ℕ) (s : Scene) (rowParity row : ℕ) (d : List ℤ) (n : ℕ) (l : List ℤ) : Type 0 where
  pub room : slot_of side s.width row + row_words side s.width ≤ length d
  pub toward : Toward (pos 0) (goal (pos 0) d (slot_of side s.width row) (row_word side (taken_in s) rowParity row) (row_words side s.width)) d l
  pub placed : Placed side s.width (taken_in s) rowParity row (slot_of side s.width row) n l

module _ (side : ℕ) (s : Scene) (rowParity row : ℕ) (d : List ℤ) where
  abbrev slot : ℕ
  slot = slot_of side s.width row

  abbrev words : ℕ → ℤ
  words = row_word side (taken_in s) rowParity row

  aimed : slot + row_words side s.width ≤ length d → Aimed side s.width (taken_in s) rowParity row slot (goal (pos 0) d slot words (row_words side s.width))
  aimed room = record { at = written_in d slot words (row_words side s.width) (pos 0) room }

  pub store-start : slot_of side s.width row + row_words side s.width ≤ length d → Storing side s rowParity row d 0 d
  store-start room = record { room = room; toward = toward-same; placed = placed-start side s.width (taken_in s) rowParity row slot }

  module _ (sided : TileSide side) (wide : s.width % 64 ≡ 0) where
    pub store-turn : {n : ℕ} {l mid r : List ℤ} {tile : List (List ℤ)} → Storing side s rowParity row d n l → n < s.width / side + 1
        → Taken side s (record { parity = rowParity; row = row; column = n }) tile
        → Spread (0 < n) (λ i j. cell (pos 0) tile i (0 + j)) (slot + 2 * (side * side) * (n - 1)) side side side l mid
        → Spread (n < s.width / side) (λ i j. cell (pos 0) tile i (side + j)) (slot + (2 * (side * side) * n + side * side)) side side side mid r
        → Storing side s rowParity row d (n + 1) r
    store-turn w h sum left right =
        let aim = aimed w.room in
        record {
          room = w.room;
          toward = toward-on w.toward (placed-nearer side s.width (taken_in s) rowParity row slot sided wide aim w.placed h sum left right);
          placed = placed-turn side s.width (taken_in s) rowParity row slot sided wide aim w.placed h sum left right;
        }

    pub store-done : {n : ℕ} {l : List ℤ} → Storing side s rowParity row d n l → s.width / side + 1 ≤ n → Stored side s rowParity row d l
    store-done w h =
        record {
          is = toward-written (pos 0) d slot words (row_words side s.width) w.room w.toward (placed-word side s.width (taken_in s) rowParity row slot sided wide w.placed h);
          most = placed-most side s.width (taken_in s) rowParity row slot sided wide w.placed h;
        }
