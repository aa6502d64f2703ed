-- A DNG file of a black frame, which is read, and a file or a burst for each refusal of the reader.
use Rattle.std.specs.Prelude.{◌≡◌, ◌∷◌, ◌++◌, ◌+◌, ◌*◌, ◌/◌, ◌%◌}
use Rattle.witnesses.specs.Prelude.{refl, sym, ap, ◌∙◌, List, [], ℕ, arith, ltb, get_or, replicate, first, some, shaped, size_allowed, count_allowed, size_refusal, count_refusal, reference_refusal, row_allowed, row_refusal, sample_length, length_refusal, shape_tests, frame_tests}
use Rattle.std.proofs.Common.{get_or-append-add, le-ltb}
use Rattle.refusals.specs.TestLaws.{goes, lone}
use Rattle.refusals.specs.SomeLaws.{not-one}
use Rattle.geometry.specs.declared.Shape.{Shape}
use Rattle.file_dng.specs.Tiff.Bytes.{short, long, number}
use Rattle.file_dng.specs.Tiff.Directory.{header_wrong, directory_outside, entries_from, entries, times_of}
use Rattle.file_dng.specs.Tiff.Fields.{right, size_of, field_at, first_field, field_outside, value_at}
use Rattle.file_dng.specs.Tags.Tags.{tags, tag_at, demands, demand_at, has_black, listed, demanded}
use Rattle.file_dng.specs.Tags.Refusals.{absent, value_of, strip_start, value_outside, strip_outside, outside, not_once, size_differs, demand_missed, otherwise, tag_tests}
use Rattle.file_dng.specs.Strip.Strip.{strip_sample, strip_refusal}
use Rattle.file_dng.specs.Refusals.{room_tests, dng_refusal}
use Rattle.witnesses.specs.SmallLaws.{replicate-none}

-- a SHORT and a LONG, the low byte first
abbrev pub two : ℕ → List ℕ
two n = n % 256 ∷ n / 256 ∷ []

abbrev pub four : ℕ → List ℕ
four n = two (n % 65536) ++ two (n / 65536)

-- an entry of twelve bytes; 1 is BYTE, 3 SHORT, 4 LONG and 12 DOUBLE
abbrev pub entry : (tag kind count value : ℕ) → List ℕ
entry tag kind count value = two tag ++ two kind ++ four count ++ four value

-- the twelve tags of a frame without black levels, of a compression; the noise profile stands at 154, and the strip at 170
abbrev pub directory : (width height compression : ℕ) → List ℕ
directory width height compression =
    two 12
    ++ entry 256 4 1 width
    ++ entry 257 4 1 height
    ++ entry 258 3 1 16
    ++ entry 259 3 1 compression
    ++ entry 262 3 1 32803
    ++ entry 273 4 1 170
    ++ entry 277 3 1 1
    ++ entry 279 4 1 (2 * (width * height))
    ++ entry 33421 3 2 131074
    ++ entry 33422 1 4 33620224
    ++ entry 50717 3 1 4095
    ++ entry 51041 12 2 154

-- "header .. II 42", the directory at 8 and the noise profile S = O = 0
abbrev pub head : (width height compression : ℕ) → List ℕ
head width height compression = 73 ∷ 73 ∷ 42 ∷ 0 ∷ four 8 ++ directory width height compression ++ replicate 16 0

abbrev pub dng : (width height compression : ℕ) (strip : List ℕ) → List ℕ
dng width height compression strip = head width height compression ++ strip

abbrev pub file : List ℕ
file = dng 64 64 1 (replicate 8192 0)

abbrev pub frame64 : Shape
frame64 = shaped 64 64 1 16 64

abbrev pub answered : (file : List ℕ) → Shape → (frame room : ℕ) → ℕ
answered file s frame room = dng_refusal file (entries file) s frame room

tags-pass : first (tag_tests file (entries file) frame64) ≡ 0
unfolding tag_tests outside header_wrong directory_outside value_outside field_outside strip_outside not_once otherwise size_differs demand_missed absent value_of first some entries entries_from times_of right size_of field_at first_field value_at number short long tags tag_at demands demand_at has_black listed demanded
tags-pass = refl

room-passes : first (room_tests frame64 0 4096) ≡ 0
unfolding room_tests frame_tests shape_tests first size_allowed count_allowed size_refusal count_refusal reference_refusal row_allowed row_refusal sample_length length_refusal
room-passes = refl

starts-170 : strip_start file (entries file) ≡ 170
unfolding value_of value_at first_field field_at right size_of number entries entries_from short long tags tag_at
starts-170 = refl

-- every sample of the strip is 0
sample-0 : (place : ℕ) → strip_sample file 170 place ≡ 0
unfolding strip_sample short
sample-0 place = omega (arith, byte (170 + 2 * place) (2 * place) refl, byte (170 + 2 * place + 1) (2 * place + 1) (omega arith))
  where
    byte : (at k : ℕ) → at ≡ 170 + k → get_or file at 0 ≡ 0
    byte at k e = ap (λ n. get_or file n 0) e ∙ get_or-append-add (head 64 64 1) (replicate 8192 0) k 0 ∙ replicate-none 8192 k

strip-passes : strip_refusal file (strip_start file (entries file)) 4096 ≡ 0
unfolding strip_refusal
strip-passes =
    rw (starts-170, not-one 4096 (λ place. ltb 4095 (strip_sample file 170 place)) (λ place h. le-ltb 4095 (strip_sample file 170 place) (omega (arith, sample-0 place))))

pub read-accepts : answered file frame64 0 4096 ≡ 0
unfolding dng_refusal
read-accepts =
    sym (goes (tag_tests file (entries file) frame64) _ (sym tags-pass) refl (goes (room_tests frame64 0 4096) _ (sym room-passes) refl (sym strip-passes ∙ lone _)))

-- 19, 20 and 21: no byte, a directory of no entries, and a compression of 7
pub tags-refused : answered [] frame64 0 4096 ∷ answered (73 ∷ 73 ∷ 42 ∷ 0 ∷ four 8 ++ two 0) frame64 0 4096 ∷ answered (dng 64 64 7 (replicate 8192 0)) frame64 0 4096 ∷ [] ≡ 19 ∷ 20 ∷ 21 ∷ []
unfolding dng_refusal tag_tests outside header_wrong directory_outside value_outside field_outside strip_outside not_once otherwise size_differs demand_missed absent value_of first some entries entries_from times_of right size_of field_at first_field value_at number short long tags tag_at demands demand_at has_black listed demanded
tags-refused = refl

-- 1, 2, 3, 23 and 4, and 11: a width of 32, no frame, frame 1 of 1, a row length of 63, a room of 0, and a first sample of 4096
pub burst-refused :
    answered (dng 32 64 1 (replicate 4096 0)) (shaped 32 64 1 16 32) 0 2048
    ∷ answered file (shaped 64 64 0 16 64) 0 0
    ∷ answered file frame64 1 4096
    ∷ answered file (shaped 64 64 1 16 63) 0 4032
    ∷ answered file frame64 0 0
    ∷ answered (dng 64 64 1 (0 ∷ 16 ∷ replicate 8190 0)) frame64 0 4096
    ∷ []
    ≡ 1 ∷ 2 ∷ 3 ∷ 23 ∷ 4 ∷ 11 ∷ []
unfolding dng_refusal tag_tests outside header_wrong directory_outside value_outside field_outside strip_outside not_once otherwise size_differs demand_missed absent value_of first some entries entries_from times_of right size_of field_at first_field value_at number short long tags tag_at demands demand_at has_black listed demanded room_tests frame_tests shape_tests size_allowed count_allowed size_refusal count_refusal reference_refusal row_allowed row_refusal sample_length length_refusal strip_refusal strip_sample
burst-refused = refl
