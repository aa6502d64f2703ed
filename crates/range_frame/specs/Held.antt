-- Inside this crate: both ends of a row of pairs of tiles that the work area holds, and rows of the low and the high frame.
use Rattle.std.specs.Prelude.{◌≡◌, ◌*◌, ◌/◌, ◌%◌, ◌+◌}
use Rattle.range_frame.specs.Prelude.{List, ℕ, ℤ, nat_abs, drop, Scene, greatest_at, least_at, low_sample, high_sample, End, plane_end, row_words, end_taken, row_written, RowHeld, RowsWritten}
use Rattle.geometry.specs.declared.Shape.{Shape}

-- word k of the frame of an end, as `frame_end` (range/Frames) has it
abbrev pub end_word : End → (lower upper : Scene) (k : ℕ) → ℕ
end_word end lower upper k =
    let row = k / lower.width in
    let column = k % lower.width in
    nat_abs (plane_end end lower upper (row % 2) (column % 2) (row / 2) (column / 2))

-- the part of the work area that has the least sums
abbrev pub least_part : (width : ℕ) → List ℤ → List ℤ
least_part width work = drop (2 * row_words 16 width) work

-- a row that is held
pub record EndsHeld (lower upper : Scene) (rowParity row : ℕ) (work : List ℤ) : Type 0 where
  pub greatest : RowHeld 16 lower.width (end_taken greatest_at lower upper) rowParity row work
  pub least : RowHeld 16 lower.width (end_taken least_at lower upper) rowParity row (least_part lower.width work)

-- both frames with row y of a row parity written, the low one's from the greatest sums and the high one's from the least
pub record RowsOut (s : Shape) (reference rowParity y : ℕ) (samples : List ℕ) (work : List ℤ) (low low' high high' : List ℕ) : Type 0 where
  pub low_is : low' ≡ row_written low samples work s reference rowParity y 0
  pub high_is : high' ≡ row_written high samples (least_part s.width work) s reference rowParity y 0

-- both frames with the parity's rows from a to before b written: the greatest sums give the low frame
pub record RowsRanged (lower upper : Scene) (rowParity a b : ℕ) (low low' high high' : List ℕ) : Type 0 where
  pub lows : RowsWritten lower.width (end_word low_sample lower upper) 0 rowParity a b low low'
  pub highs : RowsWritten lower.width (end_word high_sample lower upper) 0 rowParity a b high high'

-- the same of the rows between the tile rows `band` and `band` + 1, of which the work area then holds the second
pub record BandRanged (lower upper : Scene) (rowParity band : ℕ) (low low' high high' : List ℕ) (work : List ℤ) : Type 0 where
  pub rows : RowsRanged lower upper rowParity (8 * band) (8 * band + 8) low low' high high'
  pub held : EndsHeld lower upper rowParity (band + 1) work
