-- The column sums of a row: how their list is stored, what stands in it, and the halved row that comes of it.
use Rattle.std.specs.Prelude.{◌≡◌, ◌+◌, ◌-◌, ◌*◌, ◌/◌, ◌≤◌, ◌<◌, ◌-ℤ◌}
use Rattle.align_pyramid.specs.Prelude.{ap, ◌∙◌, List, ℕ, arith, length, get_or, set, ℤ, pos, inside, column_most, weights, tap, weighted, column_sum, edged_sum}
use native.Mathlib.Nat.{zero-add, add-zero}
use Rattle.geometry.specs.ReadLaws.{inside-below}
use Rattle.sequences.specs.Write.{written, Writing, written_in}
use Rattle.align_pyramid.specs.Halving.HalvingLaws.{column-most, halved-columns, inside-tap}
use Rattle.align_pyramid.specs.declared.images.Raster.{Raster}
use Rattle.align_pyramid.specs.Words.{image_in, halved_in, Source}
use Rattle.align_pyramid.proofs.Ends.{ends-done}

-- the sums of the columns 0 .. width − 1, and at each end the nearest once more, are the sums by the rule of reading
pub columns-done : (sum : ℕ → ℕ) (d : List ℕ) (a width : ℕ) {b j : ℕ} {l : List ℕ} → 0 < width → width + 2 ≤ length d → Writing (set d 0 a) 1 sum width j l → width ≤ j → a ≡ sum 0 → b ≡ sum (width - 1)
    → set l (1 + width) b ≡ written d 0 (λ k. sum (inside width (tap 0 k))) (width + 2)
columns-done sum d a width some room w h first last =
    ends-done d a width room (λ k. sum (inside width (tap 0 k))) w h
    (first ∙ ap sum (omega (arith, inside-tap width 0 0 some (omega arith))))
    (λ k l. ap sum (omega (arith, inside-tap width 0 (1 + k) some (omega arith))))
    (last ∙ ap sum (omega (arith, inside-tap width 0 (1 + width) some (omega arith))))

module _ {words : List ℤ} {r : Raster} {sums : List ℕ} (source : Source words r) (row : ℕ) (s : List ℕ) (room : r.width + 2 ≤ length s)
    (is : sums ≡ written s 0 (edged_sum r.height r.width (image_in words r) row) (r.width + 2)) where
  number : (k : ℕ) → k < r.width + 2 → get_or sums k 0 ≡ edged_sum r.height r.width (image_in words r) row k
  number k h = ap (λ l. get_or l k 0) is ∙ (rw zero-add at (written_in s 0 (edged_sum r.height r.width (image_in words r) row) (r.width + 2) 0 (omega arith) k h))

  pub sum-most : (k : ℕ) → k < r.width + 2 → get_or sums k 0 ≤ column_most
  sum-most k h =
      rw (number k h)
      (column-most r.height r.width source.high source.wide 16380 _ source.holds.most row (inside r.width (tap 0 k)) (inside-below r.width (tap 0 k) source.wide))

  module _ (column : ℕ) (h : column < r.width / 2) where
    at : (j : ℕ) → j < 4 → get_or sums (2 * column + j) 0 ≡ column_sum r.height (image_in words r) row (inside r.width (tap column j))
    unfolding tap
    at j k =
        let same : 2 * 0 + (2 * column + j) ≡ 2 * column + j = omega arith in
        number (2 * column + j) (omega arith) ∙ ap (λ p. column_sum r.height (image_in words r) row (inside r.width (pos p -ℤ pos 1))) same

    pub sums-halved : (weights (get_or sums (2 * column) 0) (get_or sums (2 * column + 1) 0) (get_or sums (2 * column + 2) 0) (get_or sums (2 * column + 3) 0) + 32) / 64 ≡ halved_in words r row column
    unfolding weighted
    sums-halved =
        rw (rw add-zero at (at 0 (omega arith)), at 1 (omega arith), at 2 (omega arith), at 3 (omega arith))
        (halved-columns r.height r.width (image_in words r) row column)
