-- How large a burst file's frames are, and how many: what its first two lines say, whatever rows follow.
use Rattle.file_burst.specs.Prelude.{List, ℕ, Part, refused, found, head_of, Header}
use Rattle.file_burst.specs.Reading.{refused_file, accepted_file}
use Rattle.file_burst.specs.declared.FileAnswer.{FileAnswer}

-- "Acceptance is number 0; beside a refusal every other returned field is 0."
abbrev pub head_answer : Part Header → FileAnswer
head_answer (refused number) = refused_file number
head_answer (found header rest) = accepted_file header

-- "15, 13, then line 2 by 15 and 14, then 1, 2, 3, 9, 10"
unfoldable pub file_size : List ℕ → FileAnswer
file_size file = head_answer (head_of file)
