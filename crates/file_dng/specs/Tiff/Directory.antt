-- The header, "first image directory" (request L7), and its entries, as in TIFF 6.0's Image File Header and Image File Directory.
use Rattle.std.specs.Prelude.{◌||◌, ◌∷◌, ◌+◌, ◌*◌}
use Rattle.algebra.specs.Prelude.{Bool, not, cond, List, [], ℕ, zero, suc, eqb, ltb, length}
use Rattle.file_dng.specs.declared.tiff.Entry.{Entry}
use Rattle.file_dng.specs.Tiff.Bytes.{short, long}

-- "header not II 42": no eight bytes that begin with II and the SHORT 42
unfoldable pub header_wrong : List ℕ → Bool
header_wrong file = ltb (length file) 8 || not (eqb (short file 0) (73 + 256 * 73)) || not (eqb (short file 2) 42)

-- the header's last four bytes say where the first directory stands
abbrev pub directory_start : List ℕ → ℕ
directory_start file = long file 4

abbrev pub entry_count : List ℕ → ℕ
entry_count file = short file (directory_start file)

-- "directory (its count and entries) .. outside the file"
unfoldable pub directory_outside : List ℕ → Bool
directory_outside file = ltb (length file) (directory_start file + 2 + 12 * entry_count file)

-- the twelve bytes of an entry: tag, type, count, and four that hold its values or say where they stand
abbrev pub entry_at : List ℕ → (at : ℕ) → Entry
entry_at file at = record { tag = short file at; kind = short file (at + 2); count = long file (at + 4); at = at + 8 }

unfoldable pub entries_from : List ℕ → (at count : ℕ) → List Entry
entries_from file at zero = []
entries_from file at (suc count) = entry_at file at ∷ entries_from file (at + 12) count

-- the entries of the first directory
unfoldable pub entries : List ℕ → List Entry
entries file = entries_from file (directory_start file + 2) (entry_count file)

-- how many of them have the tag
unfoldable pub times_of : (tag : ℕ) → List Entry → ℕ
times_of tag [] = 0
times_of tag (entry ∷ others) = cond (eqb entry.tag tag) 1 0 + times_of tag others
