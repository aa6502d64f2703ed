-- The numbers of the refusals, named by their conditions in document 01's table and in the requests. `src/lib.rt` has them as constants.
use Rattle.algebra.specs.Prelude.{ℕ}

-- "W or H not allowed"
abbrev pub size : ℕ
size = 1

-- "N is 0 or above 8" (request L4)
abbrev pub count : ℕ
count = 2

-- "reference ≥ N"
abbrev pub reference : ℕ
reference = 3

-- "sample length is N·L·H, and refusal 4 reads so" (request L9)
abbrev pub wrong_sample_length : ℕ
wrong_sample_length = 4

-- "vectors' length wrong"
abbrev pub wrong_vector_length : ℕ
wrong_vector_length = 5

-- "output not W·H"
abbrev pub wrong_output_length : ℕ
wrong_output_length = 6

-- "work not 2·W·H"
abbrev pub wrong_work_length : ℕ
wrong_work_length = 7

-- "shot or read negative or not finite, ISO not in 25..409600"
abbrev pub noise : ℕ
noise = 8

-- "shot > 64 or read > 4096 after ISO; in a file, Ls > 65536 or Lr > 4194304"
abbrev pub noise_limit : ℕ
noise_limit = 9

-- "t > 1024"
abbrev pub strength : ℕ
strength = 10

-- "sample > 4095"
abbrev pub sample_value : ℕ
sample_value = 11

-- "vector part outside −172..172"
abbrev pub vector_part : ℕ
vector_part = 12

-- "first file line differs"
abbrev pub first_line : ℕ
first_line = 13

-- "malformed value line"
abbrev pub wrong_value_line : ℕ
wrong_value_line = 14

-- "file short, or bytes follow"
abbrev pub file_end : ℕ
file_end = 15

-- L2: "a byte buffer of wrong length when writing"
abbrev pub byte_length : ℕ
byte_length = 16

-- L2: "any other departure when reading, a size not allowed included"
abbrev pub pgm_form : ℕ
pgm_form = 17

-- L3: "a black level above 255"
abbrev pub black_level : ℕ
black_level = 18

-- L7: "header not II 42, or directory (its count and entries), strip (start by 273, length by 279) or a listed tag's value outside the file"
abbrev pub dng_structure : ℕ
dng_structure = 19

-- L7: "a needed tag absent or a listed one given twice"
abbrev pub dng_tag : ℕ
dng_tag = 20

-- L7: "a listed type, count or value other than above"
abbrev pub dng_value : ℕ
dng_value = 21

-- L8: "a side other than 16 or 32"
abbrev pub side : ℕ
side = 22

-- L9: "a row length outside that range"
abbrev pub row_length : ℕ
row_length = 23

-- "24, s above 256" (request L13); "s not 0 refusal 24" (request L14)
abbrev pub spatial_strength : ℕ
spatial_strength = 24

-- "25, s not 0 with side 32" (request L13)
abbrev pub filtered_side : ℕ
filtered_side = 25

-- "26, a lower shot or read above its upper one after ISO" (request L14)
abbrev pub noise_range : ℕ
noise_range = 26

-- behind the papers' numbers: "a new number for a band outside the frame or not on its grid", and for a frame that is none of the others
abbrev pub absent_part : ℕ
absent_part = 27
