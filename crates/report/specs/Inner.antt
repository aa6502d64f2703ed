-- Inner vocabulary, which no public contract reaches: what the private functions ask of each other and leave to each other.
use Rattle.std.specs.Prelude.{◌≡◌, ◌-◌, ◌*◌, ◌≤◌, ◌<◌}
use Rattle.report.specs.Prelude.{List, ℕ, length, take, ℤ, Allowed, ValuesFit, aligned_vectors, residual_sums, Header, FileBurst, too_large, refusal}
use Rattle.std.specs.declared.result.Result.{Result}
use Rattle.std.specs.declared.result.Result.TheVariants.{Ok, Err}
use Rattle.refusals.specs.Refused.{refusal_number}
use Rattle.report.specs.declared.opening.Unread.{Unread}
use Rattle.report.specs.declared.opening.Unread.TheVariants.{TooLarge, Refused}
use Rattle.report.specs.Program.{program_side, program_text}

-- room for any text of the programs
abbrev pub text_room : ℕ
text_room = 32768

-- the samples of so many frames
abbrev pub room : (count : ℕ) → ℕ
room count = count * (program_side * program_side)

-- the vector parts of so many other frames: those of one are the paper's 2·(W/16+1)·(H/16+1)
abbrev pub vector_room : (others : ℕ) → ℕ
vector_room others = 50 * others

abbrev pub work_room : ℕ
work_room = 2 * (program_side * program_side)

abbrev pub burst_of : Header → (samples : List ℕ) → FileBurst
burst_of header samples = record { header = header; samples = samples }

-- a burst that the file check accepts, of the size that the programs take: its header, and its samples
pub record Taken (header : Header) (samples : List ℕ) : Type 0 where
  pub wide : header.shape.width ≡ program_side
  pub high : header.shape.height ≡ program_side
  pub sixteen : header.shape.side ≡ 16
  pub packed : header.shape.pitch ≡ header.shape.width
  pub allowed : Allowed header.shape
  pub reference_below : header.reference < header.shape.count
  pub shot_most : header.shot ≤ 65536
  pub read_most : header.read ≤ 4194304
  pub strength_most : header.strength ≤ 1024
  pub long : length samples ≡ room header.shape.count
  pub small : ValuesFit samples

-- a file that holds it: both programs print what they print for it
pub record Holds (file : List ℕ) (header : Header) (samples : List ℕ) : Type 0 where
  pub taken : Taken header samples
  pub text : (printed : FileBurst → List ℕ) → program_text printed file ≡ printed (burst_of header samples)

-- what both programs print for a file that is not read
abbrev pub unread_text : Unread → List ℕ
unread_text TooLarge = too_large
unread_text (Refused found) = refusal (refusal_number found)

-- what was found of a file, and what the lent samples then hold
abbrev pub Opens : (file samples : List ℕ) → Result Header Unread → Type 0
Opens file samples (Err unread) = (printed : FileBurst → List ℕ) → program_text printed file ≡ unread_text unread
Opens file samples (Ok header) = Holds file header (take (room header.shape.count) samples)

-- the first of the lent vectors are those of the burst's alignment, beside its sums of finest residuals
pub record AlignedAs (header : Header) (samples : List ℕ) (vectors : List ℤ) (sums : List ℕ) : Type 0 where
  pub found : take (vector_room (header.shape.count - 1)) vectors ≡ aligned_vectors header.shape header.reference samples
  pub residuals : sums ≡ residual_sums header.shape header.reference samples
  pub same : length vectors ≡ vector_room 7
