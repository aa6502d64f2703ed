-- The vectors of a level's first tiles, as the loop writes them.
use Rattle.std.specs.Prelude.{◌≡◌, ◌+◌, ◌*◌, ◌≤◌, ◌<◌}
use Rattle.align_field.specs.Prelude.{refl, sym, ◌∙◌, List, ℕ, arith, length, set, ℤ, VectorField, numbered, word}
use Rattle.sequences.specs.Write.{written, Writing, write-start, write-turn, write_done}
use Rattle.geometry.specs.VectorLaws.{word-down, word-right}

-- l is d with the vectors of the first k of n tiles from `to` on: a loop's invariant
pub record Placing (d : List ℤ) (to columns n : ℕ) (f : VectorField) (k : ℕ) (l : List ℤ) : Type 0 where
  pub count : k ≤ n
  pub same : length l ≡ length d
  pub room : to + 2 * n ≤ length d
  pub writing : Writing d to (word columns f) (2 * n) (2 * k) l

module _ {d : List ℤ} {to columns n : ℕ} {f : VectorField} where
  pub place-start : to + 2 * n ≤ length d → Placing d to columns n f 0 d
  place-start h = record { count = omega arith; same = refl; room = h; writing = write-start h }

  pub place-turn : {k : ℕ} {l : List ℤ} {down right : ℤ} → Placing d to columns n f k l → k < n → down ≡ (numbered columns f k).down → right ≡ (numbered columns f k).right → Placing d to columns n f (k + 1) (set (set l (to + 2 * k) down) (to + 2 * k + 1) right)
  place-turn {k} {l} {down} {right} w h e g =
      let first = write-turn {v = down} w.writing (omega arith) (e ∙ sym (word-down columns f k)) in
      let second = write-turn {v = right} first (omega arith) (g ∙ sym (word-right columns f k)) in
      let p : to + (2 * k + 1) ≡ to + 2 * k + 1 = omega arith in
      let q : 2 * k + 1 + 1 ≡ 2 * (k + 1) = omega arith in
      let turned = rw (p, q) at second in
      record { count = omega arith; same = turned.same; room = w.room; writing = turned }

  pub place-done : {k : ℕ} {l : List ℤ} → Placing d to columns n f k l → n ≤ k → l ≡ written d to (word columns f) (2 * n)
  place-done {k} {l} w h = write_done w.writing (omega arith)
