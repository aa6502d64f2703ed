-- What is found in local arrays is what the definitions say of the images that were copied there.
use Rattle.align_search.specs.Prelude.{refl, ap, ap₂, subst, ◌∙◌, Bool, List, ℕ, arith, get_or, sum_n, Tile, Vector, residual_most, difference, Pair, row_residual, residual, row_sum, square_row, square_sum}
use Rattle.std.specs.Prelude.{ℤ, pos, negsuc, ◌+ℤ◌, ◌-ℤ◌, ◌≡◌, ◌+◌, ◌*◌, ◌≤◌, ◌<◌}
use Rattle.std.proofs.Math.IntN.{+ℤ_idr}
use Rattle.algebra.specs.SumLaws.{sum_n-cong}
use Rattle.algebra.specs.Order.{zarith, add-pn, sub-pn}
use Rattle.align_search.specs.Vectors.{◌plus◌}
use Rattle.align_search.specs.Offsets.{offset}
use Rattle.align_search.specs.Table.{downs, rights, tabled}
use Rattle.align_search.specs.OffsetLaws.{offset-tabled, parts-most}
use Rattle.align_search.specs.Search.{tried, chosen, best_vector}
use Rattle.align_search.specs.Rows.{offset_rows, search_rows}
use Rattle.align_search.specs.RowLaws.{same_total, offset-rows-cong}
use Rattle.sequences.specs.Sum.{Summed, sum_done}
use Rattle.sequences.specs.LeastLaws.{first_min-most, first_min-cong, Lowest, lowest-done}
use Rattle.align_search.specs.declared.window.Best.{Best}
use Rattle.align_search.specs.Local.{window_row, Searched}
use Rattle.align_patch.specs.Copies.{Copied}

same_place : (a b c i d : ℤ) → a +ℤ b ≡ c +ℤ d → a +ℤ (b +ℤ i) ≡ c +ℤ i +ℤ d
same_place a b c i d e =
    omega (zarith, add-pn a b, add-pn c d, add-pn a (b +ℤ i), add-pn b i, add-pn (c +ℤ i) d, add-pn c i)

cell-place : (y x i j start stride : ℕ) → start ≡ y * stride + x → start + i * stride + j ≡ (y + i) * stride + (x + j)
cell-place y x i j start stride e = omega arith

-- The tile's array against a window's, which starts y rows and x columns above the tile moved by v
module _ (squared : Bool) (p : Pair) (t : Tile) (v : Vector) (tile window : List ℕ) (start stride y x : ℕ) (row column : ℤ)
    (copied : Copied tile t.side t.side p.reference t.origin.down t.origin.right) (seen : Copied window stride stride p.other row column)
    (high : y + t.side ≤ stride) (wide : x + t.side ≤ stride) (from : start ≡ y * stride + x)
    (down : row +ℤ pos y ≡ t.origin.down +ℤ v.down) (right : column +ℤ pos x ≡ t.origin.right +ℤ v.right) where
  square-row : (i : ℕ) → i < t.side → square_row squared tile window start stride t.side i ≡ row_residual squared p t v i
  unfolding square_row row_sum row_residual
  square-row i h =
      sum_n-cong t.side _ _
      (λ j k. ap₂ (difference squared) (copied.cell i j h k)
      (ap (λ n. get_or window n 0) (cell-place y x i j start stride from)
      ∙ seen.cell (y + i) (x + j) (omega arith) (omega arith)
      ∙ ap₂ p.other (same_place row (pos y) t.origin.down (pos i) v.down down) (same_place column (pos x) t.origin.right (pos j) v.right right)))

  square-residual : square_sum squared tile window start stride t.side ≡ residual squared p t v
  unfolding square_sum residual
  square-residual = sum_n-cong t.side _ _ square-row

biased : (r g n : ℤ) → r +ℤ g +ℤ negsuc 3 +ℤ n ≡ r +ℤ (g +ℤ (n -ℤ pos 4))
biased r g n =
    omega (zarith, add-pn (r +ℤ g +ℤ negsuc 3) n, add-pn (r +ℤ g) (negsuc 3), add-pn r g, add-pn r (g +ℤ (n -ℤ pos 4)), add-pn g (n -ℤ pos 4), sub-pn n (pos 4))

-- the rows in a window that starts 4 rows and columns before the tile moved by the guess are those of the residuals that are tried
window-row : (squared : Bool) (p : Pair) (t : Tile) (guess : Vector) (tile window : List ℕ) → Copied tile t.side t.side p.reference t.origin.down t.origin.right → Copied window (t.side + 8) (t.side + 8) p.other (t.origin.down +ℤ guess.down +ℤ negsuc 3) (t.origin.right +ℤ guess.right +ℤ negsuc 3) → (k i : ℕ) → k < 81 → i < t.side → window_row squared tile window t.side k i ≡ row_residual squared p t (guess plus offset k) i
unfolding window_row tabled
window-row squared p t guess tile window copied seen k i h l =
    rw (offset-tabled k h)
    (square-row squared p t (guess plus tabled k) tile window (get_or downs k 0 * (t.side + 8) + get_or rights k 0) (t.side + 8) (get_or downs k 0) (get_or rights k 0) (t.origin.down +ℤ guess.down +ℤ negsuc 3) (t.origin.right +ℤ guess.right +ℤ negsuc 3) copied seen
    (omega (arith, (parts-most k h).0)) (omega (arith, (parts-most k h).1)) refl
    (biased t.origin.down guess.down (pos (get_or downs k 0))) (biased t.origin.right guess.right (pos (get_or rights k 0)))
    i l)

-- a square of the other image at the tile moved by v, of side n
pub moved-residual : (squared : Bool) (p : Pair) (t : Tile) (v : Vector) (tile moved : List ℕ) (row column : ℤ) (n : ℕ) → t.side ≡ n → Copied tile t.side t.side p.reference t.origin.down t.origin.right → Copied moved n n p.other row column → row ≡ t.origin.down +ℤ v.down → column ≡ t.origin.right +ℤ v.right → square_sum squared tile moved 0 n n ≡ residual squared p t v
moved-residual squared p t v tile moved row column n e copied seen down right =
    subst (λ n. Copied moved n n p.other row column → square_sum squared tile moved 0 n n ≡ residual squared p t v) e
    (λ seen. square-residual squared p t v tile moved 0 t.side 0 0 row column copied seen (omega arith) (omega arith) (omega arith) (+ℤ_idr row ∙ down) (+ℤ_idr column ∙ right))
    seen

middle : (r g : ℤ) → r +ℤ g +ℤ negsuc 3 +ℤ pos 4 ≡ r +ℤ g
middle r g = omega (zarith, add-pn (r +ℤ g +ℤ negsuc 3) (pos 4), add-pn (r +ℤ g) (negsuc 3))

-- the middle of such a window is the square at the tile moved by the guess
pub middle-residual : (squared : Bool) (p : Pair) (t : Tile) (guess : Vector) (tile window : List ℕ) → Copied tile t.side t.side p.reference t.origin.down t.origin.right → Copied window (t.side + 8) (t.side + 8) p.other (t.origin.down +ℤ guess.down +ℤ negsuc 3) (t.origin.right +ℤ guess.right +ℤ negsuc 3) → square_sum squared tile window (4 * (t.side + 8) + 4) (t.side + 8) t.side ≡ residual squared p t guess
middle-residual squared p t guess tile window copied seen =
    square-residual squared p t guess tile window (4 * (t.side + 8) + 4) (t.side + 8) 4 4 (t.origin.down +ℤ guess.down +ℤ negsuc 3) (t.origin.right +ℤ guess.right +ℤ negsuc 3) copied seen
    (omega arith) (omega arith) refl (middle t.origin.down guess.down) (middle t.origin.right guess.right)

-- what is searched among the same rows
pub searched-same : {f g : ℕ → ℕ → ℕ} {n : ℕ} {r : Best} → ((k i : ℕ) → k < 81 → i < n → f k i ≡ g k i) → Searched f n r → Searched g n r
searched-same {f} {g} {n} {r} e s =
    record {
      is = s.is ∙ first_min-cong (λ k. sum_n n (f k)) (λ k. sum_n n (g k)) 80 (λ k h. same_total f n g 81 e k (omega arith));
      low = s.low ∙ same_total f n g 81 e r.offset s.within;
      within = s.within;
      most = s.most;
      rows_are = s.rows_are ∙ sum_n-cong 81 (offset_rows f n) (offset_rows g n) (offset-rows-cong f n g 81 e);
    }

-- the first least sum in the window is what the search finds, and the rows are those that the rule counts
pub searched-finds : (squared : Bool) (p : Pair) (t : Tile) (guess : Vector) (tile window : List ℕ) (best : Best) → Copied tile t.side t.side p.reference t.origin.down t.origin.right → Copied window (t.side + 8) (t.side + 8) p.other (t.origin.down +ℤ guess.down +ℤ negsuc 3) (t.origin.right +ℤ guess.right +ℤ negsuc 3) → Searched (window_row squared tile window t.side) t.side best → (best.offset ≡ chosen squared p t guess) × (best.residual ≡ residual squared p t (best_vector squared p t guess)) × (best.rows ≡ search_rows squared p t guess)
unfolding chosen best_vector tried residual search_rows
searched-finds squared p t guess tile window best copied seen s =
    let r = searched-same (window-row squared p t guess tile window copied seen) s in
    (r.is, r.low ∙ ap (tried squared p t guess) r.is, r.rows_are)

-- the lowest of the 81 totals is what is searched for
pub lowest-searched : {f : ℕ → ℕ → ℕ} {n b c top k at low rows : ℕ} → Lowest (λ k. sum_n n (f k)) b top 81 k at low → Summed (offset_rows f n) c 81 k rows → 81 ≤ k → b ≤ residual_most → Searched f n (record { offset = at; residual = low; rows = rows })
lowest-searched {f} {n} w s h l =
    let d = lowest-done w h in
    record {
      is = d.0;
      low = d.1;
      within = omega (arith, d.0, first_min-most (λ k. sum_n n (f k)) 80);
      most = omega (arith, d.2);
      rows_are = sum_done s h;
    }
