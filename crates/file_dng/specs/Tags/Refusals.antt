-- The tests of a file's structure, tags and values, in their order: 19, 20 and 21 (request L7), on its bytes and the entries of its directory.
use Rattle.std.specs.Prelude.{◌||◌, ◌∷◌, ◌+◌, ◌*◌}
use Rattle.file_dng.specs.Tags.Prelude.{Bool, not, cond, false, List, [], ℕ, ltb, eqb, length, refuse, some, Shape, Entry, header_wrong, directory_outside, times_of}
use Rattle.refusals.specs.Numbers as no
use Rattle.file_dng.specs.Tiff.Fields.{first_field, field_outside, value_at}
use Rattle.file_dng.specs.Tags.Tags.{ImageWidth, ImageLength, StripOffsets, StripByteCounts, tag_at, demand_at, listed, demanded}

-- no entry of the tag at a row has its type and count
unfoldable pub absent : List ℕ → List Entry → (row : ℕ) → Bool
absent file es row = eqb (first_field file (tag_at row) es).size 0

-- the tag's first value
unfoldable pub value_of : List ℕ → List Entry → (row : ℕ) → ℕ
value_of file es row = value_at file es (tag_at row) 0

-- "strip (start by 273, length by 279)"
abbrev pub strip_start : List ℕ → List Entry → ℕ
strip_start file es = value_of file es StripOffsets

abbrev pub strip_length : List ℕ → List Entry → ℕ
strip_length file es = value_of file es StripByteCounts

-- "a listed tag's value outside the file": of the tag at a row
unfoldable pub value_outside : List ℕ → List Entry → (row : ℕ) → Bool
value_outside file es row = field_outside file es (tag_at row)

-- the strip is looked up where both of its tags have an entry of right type and count
unfoldable pub strip_outside : List ℕ → List Entry → Bool
strip_outside file es =
    cond (absent file es StripOffsets) false
    (cond (absent file es StripByteCounts) false
    (ltb (length file) (strip_start file es + strip_length file es)))

-- refusal 19: "header not II 42, or directory (its count and entries), strip (start by 273, length by 279) or a listed tag's value outside the file
-- (first entries of right type and count)"
unfoldable pub outside : List ℕ → List Entry → Bool
outside file es =
    header_wrong file
    || (directory_outside file
    || (some (listed es) (λ row. value_outside file es row)
    || strip_outside file es))

-- refusal 20: "a needed tag absent or a listed one given twice", of the tag at a row
unfoldable pub not_once : List Entry → (row : ℕ) → Bool
not_once es row = not (eqb (times_of (tag_at row).tag es) 1)

-- "Width and height must be the burst's"; "279 (2·W·H bytes)"
unfoldable pub size_differs : List ℕ → List Entry → Shape → Bool
size_differs file es s =
    not (eqb (value_of file es ImageWidth) s.width)
    || (not (eqb (value_of file es ImageLength) s.height)
    || not (eqb (strip_length file es) (2 * (s.width * s.height))))

-- the value asked for at a row of the second table is another
unfoldable pub demand_missed : List ℕ → List Entry → (row : ℕ) → Bool
demand_missed file es row = not (eqb (value_at file es (tag_at (demand_at row).row) (demand_at row).index) (demand_at row).value)

-- refusal 21: "a listed type, count or value other than above"
unfoldable pub otherwise : List ℕ → List Entry → Shape → Bool
otherwise file es s =
    some (listed es) (λ row. absent file es row)
    || (size_differs file es s
    || some (demanded es) (λ row. demand_missed file es row))

-- "They come in that order"
unfoldable pub tag_tests : List ℕ → List Entry → Shape → List ℕ
tag_tests file es s =
    refuse no.dng_structure (outside file es)
    ∷ refuse no.dng_tag (some (listed es) (λ row. not_once es row))
    ∷ refuse no.dng_value (otherwise file es s)
    ∷ []
