-- The code's answers, as the definitions have them.
use Rattle.std.specs.Prelude.{Result, Ok, Err, ◌≡◌}
use Rattle.file_burst.specs.Prelude.{List, ℕ, length, Shape, sample_length, length_refusal, Part, refused, found, unless, number_of, ◌then◌, mapped, head_of, Header}
use Rattle.refusals.specs.Numbers as no
use Rattle.refusals.specs.declared.Refusal.{Refusal}
use Rattle.refusals.specs.Refused.{refusal_number}
use Rattle.file_burst.specs.Burst.{FileBurst}
use Rattle.file_burst.specs.Rows.{frames_of}
use Rattle.file_burst.specs.declared.FileAnswer.{FileAnswer}
use Rattle.file_burst.specs.Reading.{accepted_file, refused_file}

-- the code's answer, as C has it
abbrev pub answered : Result Header Refusal → FileAnswer
answered (Ok header) = accepted_file header
answered (Err refusal) = refused_file (refusal_number refusal)
