-- Document 01's figure as a burst file, which is read, and a file for each refusal of file reading and of the file check.
use Rattle.std.specs.Prelude.{◌≡◌, ◌∷◌, ◌++◌}
use Rattle.witnesses.specs.Prelude.{refl, List, [], ℕ, zero, suc, first, size_allowed, count_allowed, size_refusal, count_refusal, reference_refusal, sample_length, length_refusal, shape_tests, level_refusal, strength_refusal, shape, plain, burst}
use Rattle.printing.specs.Ascii.{ascii}
use Rattle.file_burst.specs.Lines.Part.{found, number_of}
use Rattle.file_burst.specs.Lines.Line.{past_spaces, after_digits, digits_from, values_of, has_lf, above}
use Rattle.file_burst.specs.Head.Names.{names}
use Rattle.file_burst.specs.Head.Head.{starts_with, first_line_refusal, header_refusal, head_of}
use Rattle.file_burst.specs.declared.head.Header.{Header}
use Rattle.file_burst.specs.Rows.{row, row_lines, frames_of}
use Rattle.file_burst.specs.Reading.{body_of, reading, reading_into, file_check}

-- a space and a digit n times, and the LF
abbrev pub spaced : (digit n : ℕ) (rest : List ℕ) → List ℕ
spaced digit zero rest = 10 ∷ rest
spaced digit (suc n) rest = 32 ∷ digit ∷ spaced digit n rest

-- n rows of 64 times the digit
abbrev pub rows_of : (digit n : ℕ) (rest : List ℕ) → List ℕ
rows_of digit zero rest = rest
rows_of digit (suc n) rest = digit ∷ spaced digit 63 (rows_of digit n rest)

-- 48 is the digit 0, and 52 is 4
abbrev pub file : List ℕ
file = names ++ ascii "64 64 2 0 0 4194304 1024\n" ++ rows_of 48 64 (rows_of 52 64 [])

abbrev pub header : Header
header = record { shape = shape; reference = 0; shot = 0; read = 4194304; strength = 1024 }

pub file-read : reading_into 8192 file ≡ found (record { header = header; samples = burst }) []
unfolding reading body_of head_of first_line_refusal starts_with has_lf values_of digits_from after_digits past_spaces above row_lines row frames_of header_refusal shape_tests first size_allowed count_allowed size_refusal count_refusal reference_refusal level_refusal strength_refusal sample_length length_refusal plain
file-read = refl

pub check-accepts : file_check file ≡ 0
unfolding reading body_of head_of first_line_refusal starts_with has_lf values_of digits_from after_digits past_spaces above row_lines row frames_of header_refusal shape_tests first size_allowed count_allowed size_refusal count_refusal reference_refusal level_refusal strength_refusal
check-accepts = refl

-- a file whose second line is the text, and what follows it
abbrev pub ruled : (text : List ℕ) (rest : List ℕ) → List ℕ
ruled text rest = names ++ text ++ rest

abbrev pub first-line : List ℕ
first-line = ascii "Width height count reference shot read strength\n"

abbrev pub one_frame : (rest : List ℕ) → List ℕ
one_frame rest = ruled (ascii "64 64 1 0 0 0 0\n") rest

-- its first row begins with 4096
abbrev pub bright : List ℕ
bright = one_frame (ascii "4096" ++ spaced 48 63 (rows_of 48 63 []))

abbrev pub faulty : List (List ℕ)
faulty =
    []
    ∷ first-line
    ∷ ruled (ascii "1  -2\n") []
    ∷ ruled (ascii "96 64 1 0 0 0 0\n") []
    ∷ ruled (ascii "64 64 9 0 0 0 0\n") []
    ∷ ruled (ascii "64 64 2 2 0 0 0\n") []
    ∷ ruled (ascii "64 64 1 0 65537 0 0\n") []
    ∷ ruled (ascii "64 64 1 0 0 0 1025\n") []
    ∷ bright
    ∷ []

abbrev pub faults : List ℕ
faults = 15 ∷ 13 ∷ 14 ∷ 1 ∷ 2 ∷ 3 ∷ 9 ∷ 10 ∷ 11 ∷ []

abbrev pub numbers : (List ℕ → ℕ) → List (List ℕ) → List ℕ
numbers number [] = []
numbers number (file ∷ files) = number file ∷ numbers number files

pub check-refuses : numbers file_check faulty ≡ faults
unfolding reading body_of head_of first_line_refusal starts_with has_lf values_of digits_from after_digits past_spaces above row_lines row frames_of header_refusal shape_tests first size_allowed count_allowed size_refusal count_refusal reference_refusal level_refusal strength_refusal
check-refuses = refl

pub read-refuses : numbers (λ file. number_of (reading_into 4096 file)) faulty ≡ faults
unfolding reading body_of head_of first_line_refusal starts_with has_lf values_of digits_from after_digits past_spaces above row_lines row frames_of header_refusal shape_tests first size_allowed count_allowed size_refusal count_refusal reference_refusal level_refusal strength_refusal sample_length length_refusal
read-refuses = refl

pub read-refuses-4 : number_of (reading_into 4095 bright) ≡ 4
unfolding reading body_of head_of first_line_refusal starts_with has_lf values_of digits_from after_digits past_spaces above header_refusal shape_tests first size_allowed count_allowed size_refusal count_refusal reference_refusal level_refusal strength_refusal sample_length length_refusal
read-refuses-4 = refl
