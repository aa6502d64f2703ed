-- The size of a file and the reading of it agree.
use Rattle.std.specs.Prelude.{◌≡◌}
use Rattle.file_dng.specs.Prelude.{refl, sym, ap, ◌∙◌, List, ℕ, zero, suc, length, after, first, Shape, Entry, ImageWidth, ImageLength, value_of, size_differs, otherwise, tag_tests}
use Rattle.refusals.specs.TestLaws.{both-passed}
use Rattle.file_dng.specs.declared.tags.DngSize.{DngSize}
use Rattle.file_dng.specs.Tags.Faults.{fault_tag}
use Rattle.file_dng.specs.Tags.Size.{lone_shape, lone_refusal, dng_size}
use Rattle.file_dng.specs.declared.DngRead.{DngRead}
use Rattle.file_dng.specs.Refusals.{dng_refusal}
use Rattle.file_dng.specs.Reading.{FrameReadBy}
use Rattle.file_dng.specs.ReadingLaws.{answer-number}
use Rattle.file_dng.specs.Acceptance.{sound}

-- the two kinds of answer
abbrev refusal : (number tag : ℕ) → DngSize
refusal number tag = record { refusal = number; tag = tag; width = 0; height = 0 }

abbrev size : (width height : ℕ) → DngSize
size width height = record { refusal = 0; tag = 0; width = width; height = height }

-- 19, 20 and 21 look at a burst's width and height alone
pub tests-sized : (file : List ℕ) (es : List Entry) (s t : Shape) → s.width ≡ t.width → s.height ≡ t.height → tag_tests file es s ≡ tag_tests file es t
unfolding tag_tests otherwise size_differs
tests-sized file es s t w h = rw (w, h)

module _ {es : List Entry} {file : List ℕ} {s : Shape} {frame : ℕ} {samples samples' : List ℕ} {answer : DngRead} (read : FrameReadBy es file s frame samples answer samples') where
  number_passed : answer.refusal ≡ 0 → dng_refusal file es s frame (length samples) ≡ 0
  number_passed z = sym (answer-number read) ∙ z

  -- a file that is read has its burst's size
  pub read-size : answer.refusal ≡ 0 → dng_size file es ≡ size s.width s.height
  unfolding dng_size lone_refusal dng_refusal after
  read-size z =
      let asked = (sound file es s frame (length samples) (number_passed z)).asked in
      let passed : first (tag_tests file es (lone_shape file es)) ≡ 0 =
      ap first (tests-sized file es (lone_shape file es) s asked.width asked.height) ∙ (both-passed (tag_tests file es s) _ (number_passed z)).0 in
      rw (passed, asked.width, asked.height)

  -- so a file that has none is not read
  pub size-refused : ((dng_size file es).refusal ≡ 0 → ⊥) → answer.refusal ≡ 0 → ⊥
  size-refused h z = h (ap (λ (d : DngSize). d.refusal) (read-size z))

module _ (file : List ℕ) (es : List Entry) where
  -- the number is in the answer
  pub size_number : (dng_size file es).refusal ≡ lone_refusal file es
  unfolding dng_size after
  size_number = from (lone_refusal file es) (fault_tag (lone_refusal file es) file es (lone_shape file es)) (value_of file es ImageWidth) (value_of file es ImageLength)
    where
      from : (number tag width height : ℕ) → (after number (refusal number tag) (size width height)).refusal ≡ number
      from zero tag width height = refl
      from (suc number) tag width height = refl

  size_is : lone_refusal file es ≡ 0 → dng_size file es ≡ size (value_of file es ImageWidth) (value_of file es ImageLength)
  unfolding dng_size after
  size_is z = rw z

  -- a file that has a size passes 19, 20 and 21 of every burst of that size
  pub size-passes : (s : Shape) → (dng_size file es).refusal ≡ 0 → (dng_size file es).width ≡ s.width → (dng_size file es).height ≡ s.height → first (tag_tests file es s) ≡ 0
  unfolding lone_refusal
  size-passes s z w h =
      let passed : lone_refusal file es ≡ 0 = sym size_number ∙ z in
      let is = size_is passed in
      ap first (tests-sized file es s (lone_shape file es) (sym w ∙ ap (λ (d : DngSize). d.width) is) (sym h ∙ ap (λ (d : DngSize). d.height) is)) ∙ passed
