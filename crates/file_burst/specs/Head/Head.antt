-- The first two lines: the names, and the seven values with their tests.
use Rattle.file_burst.specs.Head.Prelude.{Bool, true, false, cond, not, List, [], ℕ, length, get_or, drop, refuse, first, Part, refused, found, unless, ◌then◌, line_end, value_line}
use Rattle.std.specs.Prelude.{eqb, Result, Ok, Err, ◌∷◌, ◌++◌}
use Rattle.refusals.specs.Numbers as no
use Rattle.geometry.specs.Shape.{shaped, reference_refusal}
use Rattle.admit_length.specs.Order.{shape_tests}
use Rattle.noise.specs.Levels.{level_refusal, strength_refusal}
use Rattle.file_burst.specs.Head.Names.{names}
use Rattle.refusals.specs.declared.Refusal.{Refusal}
use Rattle.refusals.specs.Refused.{refusal_number}
use Rattle.file_burst.specs.declared.head.Head.{Head}
use Rattle.file_burst.specs.declared.head.Header.{Header}

-- the bytes begin with the text
unfoldable pub starts_with : (text : List ℕ) → List ℕ → Bool
starts_with [] bytes = true
starts_with (byte ∷ text) [] = false
starts_with (byte ∷ text) (b ∷ bytes) = cond (eqb b byte) (starts_with text bytes) false

-- "an empty file or one without a first LF 15"; 13, "first file line differs"
unfoldable pub first_line_refusal : List ℕ → ℕ
first_line_refusal file = first (line_end file ∷ refuse no.first_line (not (starts_with names file)) ∷ [])

-- "then a line of those seven values (shot and read are Ls and Lr)"; "A burst file means L = W" (request L9);
-- "Burst files mean side 16" (request L8)
abbrev pub header_of : (values : List ℕ) → Header
header_of values =
    record {
      shape = shaped (get_or values 0 0) (get_or values 1 0) (get_or values 2 0) 16 (get_or values 0 0);
      reference = get_or values 3 0;
      shot = get_or values 4 0;
      read = get_or values 5 0;
      strength = get_or values 6 0;
    }

-- "then 1, 2, 3, 9, 10"
unfoldable pub header_refusal : Header → ℕ
header_refusal header =
    first
    (shape_tests header.shape
    ++ reference_refusal header.shape header.reference
    ∷ level_refusal header.shot header.read
    ∷ strength_refusal header.strength
    ∷ [])

-- the header of seven values that pass their tests
abbrev pub tested : (values rest : List ℕ) → Part Header
tested values rest = unless (header_refusal (header_of values)) (found (header_of values) rest)

-- "15, 13, then line 2 by 15 and 14, then 1, 2, 3, 9, 10"
unfoldable pub head_of : List ℕ → Part Header
head_of file = unless (first_line_refusal file) (value_line 7 (drop (length names) file) then tested)

-- what `read_head` answers, which holds a position, as the bytes from there on
abbrev pub head_in : List ℕ → Result Head Refusal → Part Header
head_in file (Ok head) = found head.header (drop head.next file)
head_in file (Err refusal) = refused (refusal_number refusal)
