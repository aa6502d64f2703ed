-- "The reader fills one frame of the lent burst and touches no other", and "leaves spare words as they were" (requests L7 and L9).
use Rattle.std.specs.Prelude.{◌≡◌, ◌+◌, ◌-◌, ◌*◌, ◌/◌, ◌%◌, ◌≤◌, ◌<◌}
use Rattle.file_dng.specs.Prelude.{refl, sym, ap, ◌∙◌, List, ℕ, zero, suc, arith, length, get_or, after, Shape, row_stride, Entry, strip_start, tag_tests, strip_sample, filled_rows, FrameFits}
use Rattle.std.proofs.Math.Decide.{dec_lt, ℕ_discrete}
use Rattle.sequences.specs.Place.{row_room, place-row, place-column}
use Rattle.sequences.specs.Write.{written_in}
use Rattle.refusals.specs.AfterLaws.{result-made}
use Rattle.refusals.specs.TestLaws.{both-passed}
use Rattle.geometry.specs.Read.{sample_index, sample_at}
use Rattle.file_dng.specs.Strip.RowLaws.{row_fits, filled-length, elsewhere-before, elsewhere-behind}
use Rattle.file_dng.specs.declared.DngRead.{DngRead}
use Rattle.file_dng.specs.Refusals.{room_tests, dng_refusal}
use Rattle.file_dng.specs.FrameLaws.{frame-fits}
use Rattle.file_dng.specs.Reading.{filled, FrameReadBy}
use Rattle.file_dng.specs.ReadingLaws.{answer-number}

-- a word that is no sample of the frame
abbrev pub Apart : Shape → (frame k : ℕ) → Type 0
Apart s frame k = (row column : ℕ) → row < s.height → column < s.width → k ≡ sample_index s frame row column → ⊥

in_row : (s : Shape) (frame row column : ℕ) → sample_index s frame row column ≡ sample_index s frame row 0 + column
unfolding sample_index
in_row s frame row column = omega arith

-- of two rows the earlier one ends before where the later one begins
behind : (s : Shape) (frame row line column : ℕ) → row < line → column < row_stride s → sample_index s frame row column < sample_index s frame line 0
unfolding sample_index
behind s frame row line column h c = omega (arith, row_room (frame * s.height + row) (frame * s.height + line) (row_stride s) (omega arith))

module _ (file : List ℕ) (start : ℕ) (s : Shape) (frame : ℕ) (samples : List ℕ) (fits : FrameFits s frame (length samples)) where
  room : (row : ℕ) → row < s.height → sample_index s frame row 0 + s.width ≤ length (filled_rows file start s frame row samples)
  room row h = omega (arith, filled-length file start s frame samples fits row (omega arith), row_fits fits row h)

  -- such a word is as it was
  rows-kept : (k : ℕ) → Apart s frame k → (rows : ℕ) → rows ≤ s.height → get_or (filled_rows file start s frame rows samples) k 0 ≡ get_or samples k 0
  unfolding filled_rows
  rows-kept k apart zero h = refl
  rows-kept k apart (suc row) h = from (dec_lt k (sample_index s frame row 0)) (dec_lt k (sample_index s frame row 0 + s.width)) ∙ rows-kept k apart row (omega arith)
    where
      from : Dec (k < sample_index s frame row 0) → Dec (k < sample_index s frame row 0 + s.width) → get_or (filled_rows file start s frame (suc row) samples) k 0 ≡ get_or (filled_rows file start s frame row samples) k 0
      from (yes l) b = elsewhere-before (filled_rows file start s frame row samples) (sample_index s frame row 0) (λ column. strip_sample file start (row * s.width + column)) s.width k (room row h) l
      from (no l) (yes m) = absurd (apart row (k - sample_index s frame row 0) (omega arith) (omega arith) (omega (arith, in_row s frame row (k - sample_index s frame row 0))))
      from (no l) (no m) = elsewhere-behind (filled_rows file start s frame row samples) (sample_index s frame row 0) (λ column. strip_sample file start (row * s.width + column)) s.width k (room row h) (omega arith)

  -- the frame holds the strip's samples, row by row
  module _ (line column : ℕ) (left : column < s.width) where
    rows-held : (rows : ℕ) → rows ≤ s.height → line < rows → sample_at s (filled_rows file start s frame rows samples) frame line column ≡ strip_sample file start (line * s.width + column)
    unfolding filled_rows sample_at
    rows-held zero h l = absurd (omega arith)
    rows-held (suc row) h l = from (rows-held row (omega arith)) (ℕ_discrete line row)
      where
        from : (line < row → get_or (filled_rows file start s frame row samples) (sample_index s frame line column) 0 ≡ strip_sample file start (line * s.width + column)) →
            Dec (line ≡ row) → get_or (filled_rows file start s frame (suc row) samples) (sample_index s frame line column) 0 ≡ strip_sample file start (line * s.width + column)
        from again (yes e) =
            ap (λ k. get_or (filled_rows file start s frame (suc row) samples) k 0) (ap (λ k. sample_index s frame k column) e ∙ in_row s frame row column)
            ∙ written_in (filled_rows file start s frame row samples) (sample_index s frame row 0) (λ column. strip_sample file start (row * s.width + column)) s.width 0 (room row h) column left
            ∙ ap (λ k. strip_sample file start (k * s.width + column)) (sym e)
        from again (no n) =
            let earlier : line < row = omega arith in
            elsewhere-before (filled_rows file start s frame row samples) (sample_index s frame row 0) (λ column. strip_sample file start (row * s.width + column)) s.width (sample_index s frame line column) (room row h)
            (behind s frame line row column earlier (omega (arith, fits.allowed.row_least)))
            ∙ again earlier

accepted-frame : (file : List ℕ) (es : List Entry) (s : Shape) (frame room : ℕ) → dng_refusal file es s frame room ≡ 0 → FrameFits s frame room
unfolding dng_refusal
accepted-frame file es s frame room e = frame-fits s frame room (both-passed (room_tests s frame room) _ (both-passed (tag_tests file es s) _ e).1).0

-- a place has one row and one column, and a row stands in one frame
cells : (a b n c d : ℕ) → c < n → d < n → a * n + c ≡ b * n + d → (a ≡ b) × (c ≡ d)
cells a b n c d l m e = (
  sym (place-row a c n l) ∙ ap (λ k. k / n) e ∙ place-row b d n m,
  sym (place-column a c n l) ∙ ap (λ k. k % n) e ∙ place-column b d n m,
)

same_place : (s : Shape) (frame row column other line place : ℕ) → column < row_stride s → place < row_stride s → sample_index s frame row column ≡ sample_index s other line place → (frame * s.height + row ≡ other * s.height + line) × (column ≡ place)
unfolding sample_index
same_place s frame row column other line place l m e = cells (frame * s.height + row) (other * s.height + line) (row_stride s) column place l m e

same-frame : (s : Shape) (frame row other line : ℕ) → row < s.height → line < s.height → frame * s.height + row ≡ other * s.height + line → frame ≡ other
same-frame s frame row other line l m e = (cells frame other s.height row line l m e).0

module _ {es : List Entry} {file : List ℕ} {s : Shape} {frame : ℕ} {samples : List ℕ} {answer : DngRead} {samples' : List ℕ} (r : FrameReadBy es file s frame samples answer samples') where
  -- whatever the answer, every word that is no sample of the frame is as it was
  pub untouched : (k : ℕ) → (FrameFits s frame (length samples) → Apart s frame k) → get_or samples' k 0 ≡ get_or samples k 0
  unfolding after
  untouched k apart = ap (λ l. get_or l k 0) r.stored ∙ from (dng_refusal file es s frame (length samples)) refl
    where
      from : (number : ℕ) → dng_refusal file es s frame (length samples) ≡ number → get_or (after number samples (filled file es s frame samples)) k 0 ≡ get_or samples k 0
      from zero e = let fits = accepted-frame file es s frame (length samples) e in rows-kept file (strip_start file es) s frame samples fits k (apart fits) s.height (omega arith)
      from (suc number) e = refl

  -- so are the rows of every other frame, spare words too
  pub others-untouched : (other row column : ℕ) → (other ≡ frame → ⊥) → row < s.height → column < row_stride s → sample_at s samples' other row column ≡ sample_at s samples other row column
  unfolding sample_at
  others-untouched other row column n low left =
      untouched (sample_index s other row column) (λ fits line place l p e. n (same-frame s other row frame line low l (same_place s other row column frame line place left (omega (arith, fits.allowed.row_least)) e).0))

  -- and the spare words of every row
  pub spare-untouched : (other row column : ℕ) → s.width ≤ column → column < row_stride s → sample_at s samples' other row column ≡ sample_at s samples other row column
  unfolding sample_at
  spare-untouched other row column spare left =
      untouched (sample_index s other row column) (λ fits line place l p e. absurd (omega (arith, (same_place s other row column frame line place left (omega (arith, fits.allowed.row_least)) e).1)))

  -- an accepted frame holds the strip's samples, row by row
  pub frame-held : answer.refusal ≡ 0 → (row column : ℕ) → row < s.height → column < s.width → sample_at s samples' frame row column ≡ strip_sample file (strip_start file es) (row * s.width + column)
  frame-held z row column low left =
      let accepted : dng_refusal file es s frame (length samples) ≡ 0 = sym (answer-number r) ∙ z in
      ap (λ l. sample_at s l frame row column) (result-made (dng_refusal file es s frame (length samples)) samples (filled file es s frame samples) accepted r.stored)
      ∙ rows-held file (strip_start file es) s frame samples (accepted-frame file es s frame (length samples) accepted) row column left s.height (omega arith) low
