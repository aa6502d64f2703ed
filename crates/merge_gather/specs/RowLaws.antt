-- Inside the crates of the merge and of the range: an output gets written row by row, one row parity after the other; after both it has all of its words.
use Rattle.std.specs.Prelude.{◌≡◌, ◌+◌, ◌-◌, ◌*◌, ◌/◌, ◌%◌, ◌≤◌, ◌<◌}
use Rattle.merge_gather.specs.Prelude.{refl, sym, ap, subst, ◌∙◌, Bool, true, false, List, ℕ, zero, suc, arith, ltb, length, get_or, tab, written, TileSide}
use Rattle.std.proofs.Common.{add-mul, div-add-mod', ltb-true, ltb-false, ext_get_or}
use Rattle.sequences.specs.TabLaws.{length-tab, get_d-tab}
use Rattle.sequences.specs.Place.{row_below, column_below}
use Rattle.merge_tiles.specs.Toward.{Toward, toward-same, toward-on, written-right, written-toward}
use Rattle.merge_tiles.specs.Places.{by_side}
use Rattle.merge_gather.specs.RowsHeld.{word_below, place_of, RowsWritten}

module _ {width : ℕ} {word : ℕ → ℕ} {top rowParity : ℕ} where
  pub rows_start : {a : ℕ} {l : List ℕ} → RowsWritten width word top rowParity a a l l
  rows_start = record { toward = toward-same; right = λ y c h k. absurd (omega arith) }

  pub rows_on : {a b c : ℕ} {l m n : List ℕ} → RowsWritten width word top rowParity a b l m → RowsWritten width word top rowParity b c m n → RowsWritten width word top rowParity a c l n
  rows_on {a} {b} {c} {l} {m} {n} v w =
      record {
        toward = toward-on v.toward w.toward;
        right = λ y x h k i. by y x h k i (ltb y b) refl;
      }
    where
      by : (y x : ℕ) → a ≤ y → y < c → x < width → (t : Bool) → ltb y b ≡ t → get_or n (place_of width top rowParity y x) 0 ≡ word_below width word top (place_of width top rowParity y x)
      by y x h k i true e = w.toward.keeps (place_of width top rowParity y x) (v.right y x h (ltb-true y b e) i)
      by y x h k i false e = w.right y x (ltb-false y b e) k i

  -- one row
  pub row-written : {y : ℕ} → top ≤ 2 * y + rowParity → {l m : List ℕ} {f : ℕ → ℕ}
      → (2 * y + rowParity - top) * width + width ≤ length l
      → ((c : ℕ) → c < width → f c ≡ word ((2 * y + rowParity) * width + c))
      → m ≡ written l ((2 * y + rowParity - top) * width) f width → RowsWritten width word top rowParity y (y + 1) l m
  row-written {y} under {l} {m} {f} room e is =
      record {
        toward = subst (Toward 0 (word_below width word top) l) (sym is) (written-toward 0 (word_below width word top) l at f width room right);
        right = λ z c h k i.
            let this : z ≡ y = omega arith in
            subst (λ z. get_or m (place_of width top rowParity z c) 0 ≡ word_below width word top (place_of width top rowParity z c)) (sym this)
            (ap (λ n. get_or n (place_of width top rowParity y c) 0) is ∙ written-right 0 (word_below width word top) l at f width room right c i);
      }
    where
      at : ℕ
      at = (2 * y + rowParity - top) * width

      place_is : (c : ℕ) → (2 * y + rowParity) * width + c ≡ top * width + (at + c)
      place_is c =
          let row : top + (2 * y + rowParity - top) ≡ 2 * y + rowParity = omega arith in
          let parts : (2 * y + rowParity) * width ≡ top * width + (2 * y + rowParity - top) * width = subst (λ k. k * width ≡ top * width + (2 * y + rowParity - top) * width) row (add-mul top (2 * y + rowParity - top) width) in
          omega (arith, parts)

      right : (c : ℕ) → c < width → f c ≡ word_below width word top (at + c)
      right c h = e c h ∙ ap word (place_is c)

module _ {n : ℕ} (t : TileSide n) where
  row_is : (first row : ℕ) → 2 * (n / 2 * first + row / 2) + row % 2 - n * first ≡ row
  row_is = by_side t (λ n. (first row : ℕ) → 2 * (n / 2 * first + row / 2) + row % 2 - n * first ≡ row) (λ f r. omega arith) (λ f r. omega arith)

  row-below-last : (first last row : ℕ) → row < n * last - n * first → n / 2 * first + row / 2 < n / 2 * last
  row-below-last = by_side t (λ n. (first last row : ℕ) → row < n * last - n * first → n / 2 * first + row / 2 < n / 2 * last) (λ f l r h. omega arith) (λ f l r h. omega arith)

  pub rows_whole : (height : ℕ) → height % 64 ≡ 0 → n * (height / n) - n * 0 ≡ height
  rows_whole = by_side t (λ n. (height : ℕ) → height % 64 ≡ 0 → n * (height / n) - n * 0 ≡ height) (λ k h. omega arith) (λ k h. omega arith)

-- both row parities
pub all-written : {side : ℕ} → TileSide side → {width : ℕ} {word : ℕ → ℕ} (first last : ℕ) {l m o : List ℕ} → length l ≡ (side * last - side * first) * width
    → RowsWritten width word (side * first) 0 (side / 2 * first) (side / 2 * last) l m → RowsWritten width word (side * first) 1 (side / 2 * first) (side / 2 * last) m o
    → o ≡ tab ((side * last - side * first) * width) (word_below width word (side * first))
all-written {side} sided {width} {word} first last {l} {m} {o} long a b =
    ext_get_or 0 o (tab n (word_below width word top)) (same ∙ sym (length-tab (word_below width word top) n))
    (λ k h. let inside : k < n = omega (arith, same) in at k inside ∙ sym (get_d-tab (word_below width word top) 0 n k inside))
  where
    top : ℕ
    top = side * first

    n : ℕ
    n = (side * last - side * first) * width

    same : length o ≡ n
    same = b.toward.same ∙ a.toward.same ∙ long

    right : (parity y c : ℕ) → parity < 2 → side / 2 * first ≤ y → y < side / 2 * last → c < width → get_or o (place_of width top parity y c) 0 ≡ word_below width word top (place_of width top parity y c)
    right zero y c h f i j = b.toward.keeps _ (a.right y c f i j)
    right (suc zero) y c h f i j = b.right y c f i j
    right (suc (suc p)) y c h f i j = absurd (omega arith)

    at : (k : ℕ) → k < n → get_or o k 0 ≡ word_below width word top k
    at k h =
        let row = k / width in
        let column = k % width in
        let below = row_below k (side * last - side * first) width h in
        let whole : row * width + column ≡ k = div-add-mod' k width in
        let place : place_of width top (row % 2) (side / 2 * first + row / 2) column ≡ k = rw (row_is sided first row) whole in
        subst (λ z. get_or o z 0 ≡ word_below width word top z) place
        (right (row % 2) (side / 2 * first + row / 2) column (omega arith) (omega arith) (row-below-last sided first last row below) (column_below k (side * last - side * first) width h))
