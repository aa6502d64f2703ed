-- The size questions on the files that are read, and on those that are refused; and the words of some numbers.
use Rattle.std.specs.Prelude.{◌≡◌, ◌∷◌, ◌++◌}
use Rattle.witnesses.specs.Prelude.{refl, List, [], ℕ, replicate, first, some, size_allowed, count_allowed, size_refusal, count_refusal, reference_refusal, shape_tests, level_refusal, strength_refusal}
use Rattle.refusals.specs.After.{after}
use Rattle.printing.specs.Ascii.{ascii}
use Rattle.printing.specs.Decimal.{digits, decimal}
use Rattle.c_words.specs.Words.{unknown, word_table, words_of}
use Rattle.file_pgm.specs.Header.Header.{pgm_header, leading}
use Rattle.file_pgm.specs.Samples.Samples.{bytes_of}
use Rattle.file_pgm.specs.Form.{file_of, sizes_allowed, file_length}
use Rattle.file_pgm.specs.Reading.{width_in, height_in, differs, formed, accepted_pgm, pgm_answer}
use Rattle.file_pgm.specs.Size.{form_refusal, pgm_size}
use Rattle.file_burst.specs.Lines.Line.{past_spaces, after_digits, digits_from, values_of, has_lf, above}
use Rattle.file_burst.specs.Head.Head.{starts_with, first_line_refusal, header_refusal, head_of}
use Rattle.file_burst.specs.Reading.{accepted_file}
use Rattle.file_burst.specs.Size.{file_size}
use Rattle.file_dng.specs.Tiff.Bytes.{short, long, number}
use Rattle.file_dng.specs.Tiff.Directory.{header_wrong, directory_outside, entries_from, entries, times_of}
use Rattle.file_dng.specs.Tiff.Fields.{right, size_of, field_at, first_field, field_outside, value_at}
use Rattle.file_dng.specs.declared.tags.DngSize.{DngSize}
use Rattle.file_dng.specs.Tags.Tags.{tags, tag_at, demands, demand_at, has_black, listed, demanded}
use Rattle.file_dng.specs.Tags.Refusals.{absent, value_of, value_outside, strip_outside, outside, not_once, size_differs, demand_missed, otherwise, tag_tests}
use Rattle.file_dng.specs.Tags.Faults.{first_of, structure_fault, count_fault, value_fault, fault_tag}
use Rattle.file_dng.specs.Tags.Size.{lone_refusal, dng_size}
use Rattle.witnesses.specs.BurstFiles as burst
use Rattle.witnesses.specs.PgmFiles as pgm
use Rattle.witnesses.specs.DngFiles as dng

pub file-size : file_size burst.file ≡ accepted_file burst.header
unfolding file_size head_of first_line_refusal starts_with has_lf values_of digits_from after_digits past_spaces above header_refusal shape_tests first size_allowed count_allowed size_refusal count_refusal reference_refusal level_refusal strength_refusal
file-size = refl

-- the last of them has a sample above 4095, which is not looked at
pub file-size-refuses : burst.numbers (λ file. (file_size file).refusal) burst.faulty ≡ 15 ∷ 13 ∷ 14 ∷ 1 ∷ 2 ∷ 3 ∷ 9 ∷ 10 ∷ 0 ∷ []
unfolding file_size head_of first_line_refusal starts_with has_lf values_of digits_from after_digits past_spaces above header_refusal shape_tests first size_allowed count_allowed size_refusal count_refusal reference_refusal level_refusal strength_refusal
file-size-refuses = refl

pub pgm-size : pgm_size pgm.file ≡ accepted_pgm 64 64
unfolding pgm_size pgm_answer form_refusal after formed differs width_in height_in leading some sizes_allowed size_allowed file_length file_of bytes_of pgm_header decimal digits
pgm-size = refl

-- 17: no byte, and a size that is not allowed
pub pgm-size-refuses : (pgm_size []).refusal ∷ (pgm_size (pgm_header 96 64)).refusal ∷ [] ≡ 17 ∷ 17 ∷ []
unfolding pgm_size pgm_answer form_refusal after formed differs width_in height_in leading some sizes_allowed size_allowed file_length pgm_header decimal digits
pgm-size-refuses = refl

abbrev pub size_in : List ℕ → DngSize
size_in file = dng_size file (entries file)

-- of the file that is read, and of one whose size is not allowed
pub dng-size : (size_in dng.file ≡ record { refusal = 0; tag = 0; width = 64; height = 64 }) × (size_in (dng.dng 32 64 1 (replicate 4096 0)) ≡ record { refusal = 0; tag = 0; width = 32; height = 64 })
unfolding dng_size lone_refusal after tag_tests outside header_wrong directory_outside value_outside field_outside strip_outside not_once otherwise size_differs demand_missed absent value_of first some entries entries_from times_of right size_of field_at first_field value_at number short long tags tag_at demands demand_at has_black listed demanded
dng-size = (refl, refl)

-- 19 of no byte is no tag's fault; 20 of a directory of no entries is that of 256, its first; a compression of 7 is that of 259
pub dng-size-refuses :
    (size_in [] ≡ record { refusal = 19; tag = 0; width = 0; height = 0 })
    × (size_in (73 ∷ 73 ∷ 42 ∷ 0 ∷ dng.four 8 ++ dng.two 0) ≡ record { refusal = 20; tag = 256; width = 0; height = 0 })
    × (size_in (dng.dng 64 64 7 (replicate 8192 0)) ≡ record { refusal = 21; tag = 259; width = 0; height = 0 })
unfolding dng_size lone_refusal after fault_tag structure_fault count_fault value_fault first_of tag_tests outside header_wrong directory_outside value_outside field_outside strip_outside not_once otherwise size_differs demand_missed absent value_of first some entries entries_from times_of right size_of field_at first_field value_at number short long tags tag_at demands demand_at has_black listed demanded
dng-size-refuses = (refl, refl, refl)

pub words-said : (words_of 0 ≡ ascii "accepted") × (words_of 11 ≡ ascii "a sample above 4095") × (words_of 25 ≡ ascii "spatial strength not 0 with tiles of side 32") × (words_of 26 ≡ ascii "lower shot or read above the upper one after ISO") × (words_of 27 ≡ ascii "a band of rows off the grid of tiles or outside the frame, or a frame that is none of the others") × (words_of 28 ≡ unknown)
unfolding words_of word_table
words-said = (refl, refl, refl, refl, refl, refl)
