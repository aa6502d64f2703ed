-- Reading a whole file.
use Rattle.std.specs.Prelude.{Result, Ok, Err, ◌≡◌}
use Rattle.file_burst.specs.Prelude.{List, ℕ, length, Shape, sample_length, length_refusal, Part, refused, found, unless, number_of, ◌then◌, mapped, head_of, Header}
use Rattle.refusals.specs.Numbers as no
use Rattle.refusals.specs.declared.Refusal.{Refusal}
use Rattle.refusals.specs.Refused.{refusal_number}
use Rattle.file_burst.specs.Burst.{FileBurst}
use Rattle.file_burst.specs.Rows.{frames_of}
use Rattle.file_burst.specs.declared.FileAnswer.{FileAnswer}

-- "4, then each row by 15, 14, 11, then trailing bytes 15": what follows the header, where `lengthTest` is refusal 4 or nothing
unfoldable pub body_of : (lengthTest : Shape → ℕ) → Header → List ℕ → Part FileBurst
body_of lengthTest header bytes =
    unless (lengthTest header.shape) (mapped (λ samples. record { header = header; samples = samples }) (frames_of header.shape bytes))

unfoldable pub reading : (lengthTest : Shape → ℕ) → List ℕ → Part FileBurst
reading lengthTest file = head_of file then body_of lengthTest

-- file reading, into `room` samples: refusal 4 is "samples not N·W·H"
abbrev pub reading_into : (room : ℕ) → List ℕ → Part FileBurst
reading_into room file = reading (λ shape. length_refusal no.wrong_sample_length (sample_length shape) room) file

-- "The file check does the same tests without 4 and answers the number, or 0."
abbrev pub file_check : List ℕ → ℕ
file_check file = number_of (reading (λ shape. 0) file)

abbrev pub refused_file : ℕ → FileAnswer
refused_file number = record { refusal = number; width = 0; height = 0; count = 0; reference = 0; shot_level = 0; read_level = 0; strength = 0 }

abbrev pub accepted_file : Header → FileAnswer
accepted_file header =
    record {
      refusal = 0;
      width = header.shape.width;
      height = header.shape.height;
      count = header.shape.count;
      reference = header.reference;
      shot_level = header.shot;
      read_level = header.read;
      strength = header.strength;
    }

-- "Acceptance is number 0; beside a refusal every other returned field is 0."
abbrev pub file_answer : Part FileBurst → FileAnswer
file_answer (refused number) = refused_file number
file_answer (found burst rest) = accepted_file burst.header

-- "all lent buffers keep their contents": the lent samples after reading
abbrev pub samples_after : Part FileBurst → List ℕ → List ℕ
samples_after (refused number) samples = samples
samples_after (found burst rest) samples = burst.samples

-- what reading a file into lent samples leaves: its answer, and every word of the samples
pub record FileRead (file samples : List ℕ) (answer : FileAnswer) (after : List ℕ) : Type 0 where
  pub answered : answer ≡ file_answer (reading_into (length samples) file)
  pub stored : after ≡ samples_after (reading_into (length samples) file) samples
