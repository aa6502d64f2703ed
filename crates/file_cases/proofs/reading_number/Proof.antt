-- `reading_number`: the answer's first field is the number of what was read.
use mathlib.Core.Path.{◌≡◌, refl, ap, ◌∙◌}
use mathlib.Core.List.{List}
use Prim.Native.Nat.{ℕ}
use lib.ListN.{length}
use borrow.Author.Rules.{rules}
use Rattle.file_burst.specs.Lines.Part.{Part, refused, found, number_of}
use Rattle.file_burst.specs.Burst.{FileBurst}
use Rattle.file_burst.specs.Reading.{file_answer, reading_into, FileRead}
use Rattle.file_burst.specs.declared.FileAnswer.{FileAnswer}
use Rattle.file_cases.proofs.reading_number as of

number-answered : (part : Part FileBurst) → (file_answer part).refusal ≡ number_of part
number-answered (refused number) = refl
number-answered (found burst rest) = refl

number_read : {file samples : List ℕ} {answer : FileAnswer} {after : List ℕ} → FileRead file samples answer after →
    answer.refusal ≡ number_of (reading_into (length samples) file)
number_read {file} {samples} done =
    ap (λ (answer : FileAnswer). answer.refusal) done.answered ∙ number-answered (reading_into (length samples) file)

returns : of.Tie.Need-returns
returns c = number_read c.before.read_file-answer.ensures

pub reading_number_spec : {M : Type 1} → of.Statement.statement M
reading_number_spec = of.Tie.close (of.Tie.spec (λ c. search rules) (λ c κs. search rules) returns)
