-- A loop that lays an image row by row: its invariant, how it starts, goes on and ends.
use Rattle.std.specs.Prelude.{◌≡◌, ◌+◌, ◌*◌, ◌≤◌, ◌<◌}
use Rattle.align_pyramid.specs.Prelude.{sym, ap₂, subst, ◌∙◌, List, ℕ, arith, length, ℤ, pos, Image}
use native.Mathlib.Nat.{zero-mul, mul-le-mul_right}
use Rattle.sequences.specs.Write.{written, Writing, write-start, write-part, write_done}
use Rattle.sequences.specs.Place.{row_room, place-row, place-column}
use Rattle.align_pyramid.specs.Words.{word_of, laid}
use Rattle.align_pyramid.specs.WordsLaws.{Kept, writing-kept}

-- l is d after the first rows of an image
pub record Laying (d : List ℤ) (at height width : ℕ) (image : Image) (row : ℕ) (l : List ℤ) : Type 0 where
  pub count : row ≤ height
  pub writing : Writing d at (word_of image width) (height * width) (row * width) l

module _ {d : List ℤ} {at height width : ℕ} {image : Image} where
  pub lay-start : at + height * width ≤ length d → Laying d at height width image 0 d
  lay-start h = record { count = omega arith; writing = subst (λ k. Writing d at (word_of image width) (height * width) k d) (sym (zero-mul width)) (write-start h) }

  pub lay-turn : {row : ℕ} {l l' : List ℤ} {g : ℕ → ℤ} → Laying d at height width image row l → row < height
      → ((column : ℕ) → column < width → g column ≡ pos (image row column)) → l' ≡ written l (at + row * width) g width → Laying d at height width image (row + 1) l'
  lay-turn {row} {l} {l'} {g} w h e is =
      record {
        count = omega arith;
        writing =
            subst (λ k. Writing d at (word_of image width) (height * width) k l') (omega arith)
            (write-part w.writing (row_room row height width h)
            (λ column k. e column k ∙ ap₂ (λ r c. pos (image r c)) (sym (place-row row column width k)) (sym (place-column row column width k)))
            is);
      }

  pub lay_done : {row : ℕ} {l : List ℤ} → Laying d at height width image row l → height ≤ row → l ≡ laid d at height width image
  unfolding laid
  lay_done w h = write_done w.writing (mul-le-mul_right width h)

  pub laying-kept : {row : ℕ} {l : List ℤ} → Laying d at height width image row l → Kept d at l
  laying-kept w = writing-kept w.writing
