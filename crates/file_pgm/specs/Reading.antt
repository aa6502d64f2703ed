-- Reading a PGM file into a lent frame, "only in that spelling, with width and height handed back": "reading 17, 6, 11".
use Rattle.std.specs.Prelude.{Result, Ok, Err, ◌≡◌, ◌&&◌, ◌∷◌, ◌+◌, ◌*◌}
use Rattle.file_pgm.specs.Prelude.{Bool, not, List, [], ℕ, eqb, length, get_or, drop, refuse, first, after, length_refusal, decimal, pgm_header, leading, above_refusal, samples_of}
use Rattle.refusals.specs.Numbers as no
use Rattle.refusals.specs.Some.{some}
use Rattle.refusals.specs.declared.Refusal.{Refusal}
use Rattle.refusals.specs.Refused.{refusal_number}
use Rattle.file_pgm.specs.declared.PgmRead.{PgmRead}
use Rattle.file_pgm.specs.declared.reading.Size.{Size}
use Rattle.file_pgm.specs.Form.{PgmFile, file_length, sizes_allowed}

-- the only width and the only height that the bytes can be a file of: an allowed size has at most four digits
unfoldable pub width_in : List ℕ → ℕ
width_in bytes = leading 4 0 (drop 3 bytes)

unfoldable pub height_in : List ℕ → ℕ
height_in bytes = leading 4 0 (drop (4 + length (decimal (width_in bytes))) bytes)

-- the bytes have another byte than the text at one of its places
unfoldable pub differs : (text bytes : List ℕ) → Bool
differs text bytes = some (length text) (λ k. not (eqb (get_or bytes k 0) (get_or text k 0)))

-- the bytes have the length and the header of a file of an allowed size
unfoldable pub formed : (width height : ℕ) → List ℕ → Bool
formed width height bytes =
    sizes_allowed width height && (eqb (length bytes) (file_length width height) && not (differs (pgm_header width height) bytes))

-- the samples behind the header of a size
unfoldable pub samples_as : (width height : ℕ) → List ℕ → List ℕ
samples_as width height bytes = samples_of (drop (length (pgm_header width height)) bytes)

-- the tests of bytes that are read as a file of a size, into a frame of `room` samples. 17: "any other departure when reading, a size not allowed
-- included"
unfoldable pub refusal_as : (width height : ℕ) (bytes : List ℕ) (room : ℕ) → ℕ
refusal_as width height bytes room =
    first
    (refuse no.pgm_form (not (formed width height bytes))
    ∷ length_refusal no.wrong_output_length (width * height) room
    ∷ above_refusal (samples_as width height bytes)
    ∷ [])

-- the tests and the samples of the bytes
unfoldable pub read_refusal : (bytes : List ℕ) (room : ℕ) → ℕ
read_refusal bytes room = refusal_as (width_in bytes) (height_in bytes) bytes room

unfoldable pub samples_in : List ℕ → List ℕ
samples_in bytes = samples_as (width_in bytes) (height_in bytes) bytes

-- "beside a refusal every other returned field is 0"
abbrev pub refused_pgm : (number : ℕ) → PgmRead
refused_pgm number = record { refusal = number; width = 0; height = 0 }

-- "with width and height handed back"
abbrev pub accepted_pgm : (width height : ℕ) → PgmRead
accepted_pgm width height = record { refusal = 0; width = width; height = height }

-- the answer beside a number
unfoldable pub pgm_answer : (number width height : ℕ) → PgmRead
pgm_answer number width height = after number (refused_pgm number) (accepted_pgm width height)

-- what reading answers, and every word that it leaves: where it accepts, the frame that the bytes are the file of
pub record ReadsPgm (bytes frame frame' : List ℕ) (r : PgmRead) : Type 0 where
  pub answer : r ≡ pgm_answer (read_refusal bytes (length frame)) (width_in bytes) (height_in bytes)
  pub stored : frame' ≡ after (read_refusal bytes (length frame)) frame (samples_in bytes)
  pub file : r.refusal ≡ 0 → PgmFile bytes r.width r.height frame'
