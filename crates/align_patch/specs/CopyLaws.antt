-- A square is copied row by row, and a row at once where it lies inside.
use Rattle.std.specs.Prelude.{◌≡◌, ◌+◌, ◌*◌, ◌≤◌, ◌+ℤ◌}
use Rattle.algebra.specs.Prelude.{ap, ◌∙◌, List, ℕ, arith, length, get_or, ℤ, pos}
use Rattle.std.proofs.Common.{below_more}
use Rattle.sequences.specs.Place.{row_room}
use Rattle.sequences.specs.Write.{written, written_in, written-before, written-ext}
use Rattle.align_pyramid.specs.Words.{word_at}
use Rattle.align_patch.specs.Copies.{Copied, RowCopy, sample_of}
use Rattle.align_patch.specs.PeriodLaws.{all-inside}

-- one row more
pub copied-turn : {l : List ℕ} {i n : ℕ} {f : ℤ → ℤ → ℕ} {row column : ℤ} → Copied l i n f row column → i * n + n ≤ length l → (g : ℕ → ℕ) → ((j : ℕ) → g j ≡ f (row +ℤ pos i) (column +ℤ pos j)) → Copied (written l (i * n) g n) (i + 1) n f row column
copied-turn {l} {i} {n} {f} {row} {column} c room g e =
    record {
      cell = λ k j h m.
          below_more (λ k. get_or (written l (i * n) g n) (k * n + j) 0 ≡ f (row +ℤ pos k) (column +ℤ pos j)) i
          (λ k b. written-before l (i * n) g n 0 room (k * n + j) (omega (arith, row_room _ _ n b)) ∙ c.cell k j b m)
          (written_in l (i * n) g n 0 room j m ∙ e j) k h;
    }

-- where all columns lie in the row, the words from there on are its samples
pub copied-inside : {words : List ℤ} {start width n x to : ℕ} {column : ℤ} {out l : List ℕ} → RowCopy words start width column n out to → column ≡ pos x → x + n ≤ width → l ≡ written out to (λ j. word_at words (start + x + j)) n → l ≡ written out to (sample_of words start width column) n
copied-inside {words} {start} {width} {n} {x} {to} {column} {out} c e h w =
    w ∙ written-ext out to n _ _ (λ j k. ap (word_at words) (all-inside start width n x j column e h k))
