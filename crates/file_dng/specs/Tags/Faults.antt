-- Which tag is at fault beside 19, 20 and 21: that of the first demand, in the order of the tests, that the file does not meet. 0 stands for none.
use Rattle.std.specs.Prelude.{◌||◌, ◌∷◌}
use Rattle.file_dng.specs.Tags.Prelude.{cond, List, [], ℕ, zero, suc, eqb, refuse, ◌before◌, first, Shape, Entry, header_wrong, directory_outside}
use Rattle.refusals.specs.Numbers as no
use Rattle.file_dng.specs.Tags.Tags.{StripOffsets, StripByteCounts, tag_at, demand_at, listed, demanded}
use Rattle.file_dng.specs.Tags.Refusals.{absent, value_outside, strip_outside, not_once, size_differs, demand_missed}

-- the first of f 0, .., f (n − 1) that is not 0, or 0
unfoldable pub first_of : ℕ → (ℕ → ℕ) → ℕ
first_of zero f = 0
first_of (suc n) f = first_of n f before f n

-- the tag whose value is asked for at a row of the second table
abbrev pub demand_tag : (row : ℕ) → ℕ
demand_tag row = (tag_at (demand_at row).row).tag

-- 19: a header or a directory is no tag's fault; then each value's place in the table's order, then the strip, which starts by 273
unfoldable pub structure_fault : List ℕ → List Entry → ℕ
structure_fault file es =
    cond (header_wrong file || directory_outside file) 0
    (first
    (first_of (listed es) (λ row. refuse (tag_at row).tag (value_outside file es row))
    ∷ refuse (tag_at StripOffsets).tag (strip_outside file es)
    ∷ []))

-- 20: the first of the table that is absent or given twice
unfoldable pub count_fault : List Entry → ℕ
count_fault es = first_of (listed es) (λ row. refuse (tag_at row).tag (not_once es row))

-- 21, for a burst of the file's own size: types and counts in the table's order; then the strip's length, 279, which alone of the sizes can differ; then the
-- values that are asked for
unfoldable pub value_fault : List ℕ → List Entry → Shape → ℕ
value_fault file es s =
    first
    (first_of (listed es) (λ row. refuse (tag_at row).tag (absent file es row))
    ∷ refuse (tag_at StripByteCounts).tag (size_differs file es s)
    ∷ first_of (demanded es) (λ row. refuse (demand_tag row) (demand_missed file es row))
    ∷ [])

-- the tag at fault beside a number
unfoldable pub fault_tag : (number : ℕ) → List ℕ → List Entry → Shape → ℕ
fault_tag number file es s =
    cond (eqb number no.dng_structure) (structure_fault file es)
    (cond (eqb number no.dng_tag) (count_fault es)
    (cond (eqb number no.dng_value) (value_fault file es s) 0))
