-- A field that was written stands there.
use Rattle.std.specs.Prelude.{◌≡◌, ◌+◌, ◌*◌, ◌≤◌, ◌<◌}
use Rattle.algebra.specs.Prelude.{sym, ap, ap₂, subst, ◌∙◌, List, ℕ, arith, length, get_or, ℤ, pos, nat_abs}
use Rattle.std.proofs.Common.{add_assoc}
use Rattle.geometry.specs.ReadLaws.{cell_below}
use Rattle.sequences.specs.Place.{place-row, place-column}
use Rattle.sequences.specs.Write.{written, written_in, written-length}
use Rattle.align_burst.specs.Prelude.{Within, VectorField, numbered, word, field_at, Vectors}
use Rattle.geometry.specs.VectorLaws.{word-down, word-right}
use Rattle.align_burst.specs.FieldLaws.{word-most}

-- a field that was written
module _ (d : List ℤ) (to rows columns : ℕ) (f : VectorField) (room : to + 2 * (rows * columns) ≤ length d) where
  pub written-field : (row column : ℕ) → row < rows → column < columns → field_at (written d to (word columns f) (2 * (rows * columns))) to columns row column ≡ f row column
  unfolding field_at
  written-field row column h m =
      let i = row * columns + column in
      let b = cell_below row column rows columns h m in
      let same : numbered columns f i ≡ f row column = ap₂ f (place-row row column columns m) (place-column row column columns m) in
      ap₂ (λ x y. record { down = x; right = y })
      (written_in d to (word columns f) (2 * (rows * columns)) (pos 0) room (2 * i) (omega arith) ∙ word-down columns f i ∙ ap (λ v. v.down) same)
      (ap (λ n. get_or (written d to (word columns f) (2 * (rows * columns))) n (pos 0)) (add_assoc to (2 * i) 1)
      ∙ written_in d to (word columns f) (2 * (rows * columns)) (pos 0) room (2 * i + 1) (omega arith)
      ∙ word-right columns f i
      ∙ ap (λ v. v.right) same)

  pub written-vectors : (b : ℕ) → b ≤ 84 → ((row column : ℕ) → Within b (f row column)) → 0 < rows → 0 < columns → Vectors (written d to (word columns f) (2 * (rows * columns))) (record { at = to; rows = rows; columns = columns })
  written-vectors b small w some_rows some_columns =
      record {
        some_rows = some_rows;
        some_columns = some_columns;
        room = omega (arith, written-length d to (word columns f) (2 * (rows * columns)) (pos 0) room);
        most = λ k h.
            subst (λ z. nat_abs z ≤ 84) (sym (written_in d to (word columns f) (2 * (rows * columns)) (pos 0) room k h))
            (omega (arith, word-most columns f b w k));
      }
