-- The values of a tag: those of its first entry of right type and count.
use Rattle.std.specs.Prelude.{◌&&◌, ◌||◌, ◌∷◌, ◌+◌, ◌*◌}
use Rattle.algebra.specs.Prelude.{Bool, cond, List, [], ℕ, eqb, leb, ltb, length}
use Rattle.file_dng.specs.declared.tiff.Entry.{Entry}
use Rattle.file_dng.specs.declared.tiff.Field.{Field}
use Rattle.file_dng.specs.declared.tiff.Wanted.{Wanted}
use Rattle.file_dng.specs.Tiff.Bytes.{long, number}

-- an entry of the tag, "of right type and count"
unfoldable pub right : Wanted → Entry → Bool
right wanted entry =
    eqb entry.tag wanted.tag && (eqb entry.kind wanted.kind || eqb entry.kind wanted.other) && eqb entry.count wanted.count

-- the bytes of one value, by TIFF's number of the type: BYTE 1, SHORT 3, LONG 4, DOUBLE 12
unfoldable pub size_of : (kind : ℕ) → ℕ
size_of kind = cond (eqb kind 1) 1 (cond (eqb kind 3) 2 (cond (eqb kind 4) 4 (cond (eqb kind 12) 8 0)))

-- values of four bytes or less stand in the entry; else its last four bytes say where they stand
unfoldable pub field_at : List ℕ → Entry → Field
field_at file entry =
    record { size = size_of entry.kind; at = cond (leb (size_of entry.kind * entry.count) 4) entry.at (long file entry.at) }

-- "first entries of right type and count"; a field of size 0 where there is none
abbrev pub no_field : Field
no_field = record { size = 0; at = 0 }

unfoldable pub first_field : List ℕ → Wanted → List Entry → Field
first_field file wanted [] = no_field
first_field file wanted (entry ∷ others) = cond (right wanted entry) (field_at file entry) (first_field file wanted others)

-- "a listed tag's value outside the file"
unfoldable pub field_outside : List ℕ → List Entry → Wanted → Bool
field_outside file es wanted = ltb (length file) ((first_field file wanted es).at + (first_field file wanted es).size * wanted.count)

-- the value at an index
unfoldable pub value_at : List ℕ → List Entry → Wanted → (index : ℕ) → ℕ
value_at file es wanted index = number (first_field file wanted es).size file ((first_field file wanted es).at + (first_field file wanted es).size * index)
