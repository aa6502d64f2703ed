-- The size of a file and the reading of it agree.
use Rattle.std.specs.Prelude.{◌≡◌}
use Rattle.file_burst.specs.Prelude.{refl, sym, ap, ◌∙◌, List, ℕ, length, Shape, sample_length, length_refusal, Part, refused, found, number_of, ◌then◌, head_of, Header}
use Rattle.refusals.specs.Numbers as no
use Rattle.file_burst.specs.Head.HeadLaws.{HeadRead, head-complete}
use Rattle.file_burst.specs.Burst.{FileBurst}
use Rattle.file_burst.specs.Reading.{body_of, reading, reading_into, file_answer, FileRead}
use Rattle.file_burst.specs.Acceptance.{sound-number, complete}
use Rattle.file_burst.specs.Size.{head_answer, file_size}
use Rattle.file_burst.specs.declared.FileAnswer.{FileAnswer}

-- the number of an answer
answer-number : (part : Part FileBurst) → (file_answer part).refusal ≡ number_of part
answer-number (refused number) = refl
answer-number (found burst rest) = refl

module _ {file samples after : List ℕ} {answer : FileAnswer} (read : FileRead file samples answer after) where
  -- a file that is read has its size
  pub read-size : answer.refusal ≡ 0 → file_size file ≡ answer
  unfolding file_size
  read-size z =
      let lengthTest : Shape → ℕ = λ shape. length_refusal no.wrong_sample_length (sample_length shape) (length samples) in
      let part = reading_into (length samples) file in
      let (burst, a) = sound-number lengthTest file (sym (answer-number part) ∙ sym (ap (λ (r : FileAnswer). r.refusal) read.answered) ∙ z) in
      let g = a.grammar in
      let h : HeadRead file burst.header g.after_values = record { after_names = g.after_names; named = g.named; valued = g.valued; sixteen = g.sixteen; packed = g.packed; passed = a.header } in
      ap head_answer (head-complete h) ∙ sym (read.answered ∙ ap file_answer (complete lengthTest file burst a))

  -- a file that has none is not read, for the same reason
  pub size-refused : ((file_size file).refusal ≡ 0 → ⊥) → answer ≡ file_size file
  unfolding file_size reading
  size-refused h = read.answered ∙ from (head_of file) h
    where
      from : (head : Part Header) → ((head_answer head).refusal ≡ 0 → ⊥) → file_answer (head then body_of (λ shape. length_refusal no.wrong_sample_length (sample_length shape) (length samples))) ≡ head_answer head
      from (refused number) h = refl
      from (found header rest) h = absurd (h refl)
