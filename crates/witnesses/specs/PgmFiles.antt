-- A black frame of 64 by 64 is written and read as a PGM file; and a frame or a file for each refusal of writing and reading.
use Rattle.witnesses.specs.Prelude.{refl, List, [], ℕ, lit≤, length, first, some, size_allowed, length_refusal}
use Rattle.std.specs.Prelude.{replicate, ◌≡◌, ◌∷◌, ◌++◌}
use Rattle.std.proofs.lemmas.List.{length-replicate}
use Rattle.printing.specs.Decimal.{digits, decimal}
use Rattle.file_pgm.specs.Header.Header.{pgm_header, leading}
use Rattle.file_pgm.specs.Samples.Samples.{bytes_of, some_above, above_refusal, samples_of}
use Rattle.file_pgm.specs.Form.{file_of, sizes_allowed, PgmFile, file_length, pgm_length}
use Rattle.file_pgm.specs.Writing.{write_refusal}
use Rattle.file_pgm.specs.Reading.{width_in, height_in, differs, formed, samples_as, refusal_as, read_refusal, samples_in}
use Rattle.file_pgm.specs.Acceptance as Acceptance
use Rattle.witnesses.specs.SmallLaws.{replicate-most}

abbrev pub black : List ℕ
black = replicate 4096 0

abbrev pub file : List ℕ
file = file_of 64 64 black

is-file : PgmFile file 64 64 black
unfolding sizes_allowed size_allowed
is-file = record { allowed = refl; long = length-replicate {A = ℕ} 4096 0; small = replicate-most 4095 4096 0 (lit≤ tt); is = refl }

-- "`P5`, LF, width, a space, height, LF, `4095`, LF": 14 bytes, and two for each sample
pub length-8206 : pgm_length 64 64 ≡ 8206
unfolding pgm_length sizes_allowed size_allowed file_length pgm_header decimal digits
length-8206 = refl

pub write-accepts : (bytes : List ℕ) → length bytes ≡ length file → write_refusal 64 64 black bytes ≡ 0
write-accepts bytes e = Acceptance.write-complete bytes is-file e

pub read-accepts : (read_refusal file 4096 ≡ 0) × (samples_in file ≡ black)
read-accepts = (Acceptance.complete is-file, Acceptance.samples-read is-file)

-- 1, 6, 16 and 11
pub write-refuses : write_refusal 96 64 black [] ∷ write_refusal 64 64 [] [] ∷ write_refusal 64 64 black [] ∷ write_refusal 64 64 (4096 ∷ replicate 4095 0) (replicate 8206 0) ∷ [] ≡ 1 ∷ 6 ∷ 16 ∷ 11 ∷ []
unfolding write_refusal first some sizes_allowed size_allowed length_refusal file_length pgm_header decimal digits above_refusal some_above
write-refuses = refl

-- 17: no byte, and a size that is not allowed; 6 and 11
pub read-refuses : read_refusal [] 4096 ∷ read_refusal (pgm_header 96 64) 6144 ∷ read_refusal file 4095 ∷ read_refusal (pgm_header 64 64 ++ 16 ∷ 0 ∷ replicate 8190 0) 4096 ∷ [] ≡ 17 ∷ 17 ∷ 6 ∷ 11 ∷ []
unfolding read_refusal refusal_as formed differs width_in height_in leading first some sizes_allowed size_allowed length_refusal file_length file_of bytes_of pgm_header decimal digits samples_as samples_of above_refusal some_above
read-refuses = refl
