-- The rows of a frame: each lies in the lent samples, and they are stored one by one.
use Rattle.std.specs.Prelude.{◌≡◌, ◌+◌, ◌-◌, ◌*◌, ◌≤◌, ◌<◌}
use Rattle.algebra.specs.Prelude.{refl, sym, ap, ◌∙◌, List, ℕ, zero, suc, arith, length, get_or}
use Rattle.std.proofs.Common.{mul_comm, add-one}
use Rattle.sequences.specs.Place.{row_room}
use Rattle.sequences.specs.Write.{written, written-before, written_after, written-length}
use Rattle.geometry.specs.declared.Shape.{Shape}
use Rattle.geometry.specs.Shape.{sample_length}
use Rattle.geometry.specs.Fits.{Allowed}
use Rattle.geometry.specs.Read.{sample_index}
use Rattle.geometry.specs.ReadLaws.{index_below}
use Rattle.file_dng.specs.Strip.Strip.{strip_sample, filled_rows}
use Rattle.file_dng.specs.Strip.Fits.{FrameFits}

-- a row of the strip lies in the strip
pub strip-row : (s : Shape) (row : ℕ) → row < s.height → row * s.width + s.width ≤ s.width * s.height
strip-row s row h = omega (arith, row_room row s.height s.width h, mul_comm s.height s.width)

-- a row of a frame lies in the samples
pub row_inside : (s : Shape) (frame row : ℕ) → Allowed s → frame < s.count → row < s.height → sample_index s frame row 0 + s.width ≤ sample_length s
unfolding sample_index
row_inside s frame row allowed f r = omega (arith, allowed.wide.least, index_below s frame row (s.width - 1) f r (omega (arith, allowed.wide.least, allowed.row_least)))

pub row_fits : {s : Shape} {frame room : ℕ} → FrameFits s frame room → (row : ℕ) → row < s.height → sample_index s frame row 0 + s.width ≤ room
row_fits {s} {frame} fits row h = omega (arith, fits.long, row_inside s frame row fits.allowed fits.below h)

-- what is stored elsewhere leaves a word as it was
pub elsewhere-before : (l : List ℕ) (at : ℕ) (f : ℕ → ℕ) (n j : ℕ) → at + n ≤ length l → j < at → get_or (written l at f n) j 0 ≡ get_or l j 0
elsewhere-before l at f n j room h = written-before l at f n 0 room j h

pub elsewhere-behind : (l : List ℕ) (at : ℕ) (f : ℕ → ℕ) (n j : ℕ) → at + n ≤ length l → at + n ≤ j → get_or (written l at f n) j 0 ≡ get_or l j 0
elsewhere-behind l at f n j room h =
    let e : j ≡ at + n + (j - (at + n)) = omega arith in
    ap (λ k. get_or (written l at f n) k 0) e ∙ written_after l at f n 0 room (j - (at + n)) ∙ ap (λ k. get_or l k 0) (sym e)

-- l is d after the first rows of the frame: a loop's invariant
pub record Filling (file : List ℕ) (start : ℕ) (s : Shape) (frame : ℕ) (d : List ℕ) (row : ℕ) (l : List ℕ) : Type 0 where
  pub count : row ≤ s.height
  pub same : length l ≡ length d
  pub is : l ≡ filled_rows file start s frame row d

module _ {file : List ℕ} {start : ℕ} {s : Shape} {frame : ℕ} {d : List ℕ} where
  pub rows_start : Filling file start s frame d 0 d
  unfolding filled_rows
  rows_start = record { count = omega arith; same = refl; is = refl }

  pub rows-turn : {row : ℕ} {l l' : List ℕ} (at : ℕ) → FrameFits s frame (length d) → Filling file start s frame d row l → row < s.height → at ≡ sample_index s frame row 0 →
      l' ≡ written l at (λ column. strip_sample file start (row * s.width + column)) s.width → Filling file start s frame d (row + 1) l'
  unfolding filled_rows
  rows-turn {row} {l} {l'} at fits w h e f =
      let room : at + s.width ≤ length l = omega (arith, e, w.same, row_fits fits row h) in
      record {
        count = omega arith;
        same = ap length f ∙ written-length l at (λ column. strip_sample file start (row * s.width + column)) s.width 0 room ∙ w.same;
        is = f ∙ rw (add-one row, e, w.is);
      }

  pub rows-done : {row : ℕ} {l : List ℕ} → Filling file start s frame d row l → s.height ≤ row → l ≡ filled_rows file start s frame s.height d
  rows-done {row} {l} w h = let e : row ≡ s.height = omega (arith, w.count) in w.is ∙ ap (λ n. filled_rows file start s frame n d) e

-- as many words as before
pub filled-length : (file : List ℕ) (start : ℕ) (s : Shape) (frame : ℕ) (d : List ℕ) → FrameFits s frame (length d) → (rows : ℕ) → rows ≤ s.height → length (filled_rows file start s frame rows d) ≡ length d
unfolding filled_rows
filled-length file start s frame d fits zero h = refl
filled-length file start s frame d fits (suc row) h =
    let same = filled-length file start s frame d fits row (omega arith) in
    written-length (filled_rows file start s frame row d) (sample_index s frame row 0) (λ column. strip_sample file start (row * s.width + column)) s.width 0 (omega (arith, same, row_fits fits row h)) ∙ same
