-- The merge's rows, one row parity after the other, are the merge.
use Rattle.std.specs.Prelude.{◌≡◌, ◌+◌, ◌-◌, ◌*◌, ◌/◌, ◌%◌, ◌≤◌, ◌<◌}
use Rattle.merge_frame.specs.Prelude.{ap, ◌∙◌, List, ℕ, arith, length, nat_abs, AllowedSize, TileSide, Scene, plane_output, output_at, word_at, merged}
use native.Mathlib.Nat.{mul_comm}
use Rattle.sequences.specs.Tab.{tab}
use Rattle.sequences.specs.Grid.{tab-ext}
use Rattle.sequences.specs.Write.{written}
use Rattle.sequences.specs.Place.{place-row, place-column}
use Rattle.merge_gather.specs.RowsHeld.{word_below}
use Rattle.merge_frame.specs.Progress.{RowsMerged, merged_rows}
use Rattle.merge_gather.specs.RowLaws.{row-written, rows_whole, all-written}

-- the frame's word at a row of a row parity
pub place-word : (s : Scene) (rowParity y c : ℕ) → rowParity < 2 → c < s.width → nat_abs (plane_output s rowParity (c % 2) y (c / 2)) ≡ word_at s ((2 * y + rowParity) * s.width + c)
unfolding word_at output_at
place-word s rowParity y c parity inside =
    let row = 2 * y + rowParity in
    let odd : row % 2 ≡ rowParity = omega arith in
    let half : row / 2 ≡ y = omega arith in
    rw (place-row row c s.width inside, place-column row c s.width inside, odd, half)

-- one row
pub row-merged : (s : Scene) {top rowParity : ℕ} → rowParity < 2 → {y : ℕ} → top ≤ 2 * y + rowParity → {l m : List ℕ} {f : ℕ → ℕ}
    → (2 * y + rowParity - top) * s.width + s.width ≤ length l
    → ((c : ℕ) → c < s.width → f c ≡ nat_abs (plane_output s rowParity (c % 2) y (c / 2)))
    → m ≡ written l ((2 * y + rowParity - top) * s.width) f s.width → RowsMerged s top rowParity y (y + 1) l m
row-merged s {rowParity = rowParity} parity {y} under room e is = row-written under room (λ c h. e c h ∙ place-word s rowParity y c parity h) is

-- both row parities
pub all-merged : {side : ℕ} → TileSide side → (s : Scene) (first last : ℕ) {l m o : List ℕ} → length l ≡ (side * last - side * first) * s.width
    → RowsMerged s (side * first) 0 (side / 2 * first) (side / 2 * last) l m → RowsMerged s (side * first) 1 (side / 2 * first) (side / 2 * last) m o → o ≡ merged_rows side s first last
unfolding merged_rows
all-merged sided s first last = all-written sided {word = word_at s} first last

-- all rows are the merge
pub whole-merged : {side : ℕ} → TileSide side → (s : Scene) → AllowedSize s.height → merged_rows side s 0 (s.height / side) ≡ merged s
unfolding merged_rows merged
whole-merged {side} sided s high =
    let size : (side * (s.height / side) - side * 0) * s.width ≡ s.width * s.height = ap (λ k. k * s.width) (rows_whole sided s.height high.whole) ∙ mul_comm s.height s.width in
    ap (λ n. tab n (word_below s.width (word_at s) (side * 0))) size ∙ tab-ext (s.width * s.height) (word_below s.width (word_at s) (side * 0)) (word_at s) (λ k h. ap (word_at s) (omega arith))
