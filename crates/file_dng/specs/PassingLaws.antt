-- "other tags, 50713 without 50714 too, are passed over": an entry of such a tag changes nothing, wherever it stands in the directory's list. The file's bytes
-- are the same throughout: no two files are compared.
use Rattle.std.specs.Prelude.{◌≡◌, ◌∷◌, ◌++◌, ◌<◌}
use Rattle.file_dng.specs.Prelude.{refl, ◌∙◌, Bool, true, false, cond, List, ℕ, arith, leb, length, Shape, Entry, entries, first_field, field_outside, value_at, ImageWidth, ImageLength, StripOffsets, StripByteCounts, NoiseProfile, BlackLevel, tags, tag_at, demands, demand_at, has_black, listed, demanded, absent, value_of, strip_start, strip_length, value_outside, strip_outside, outside, not_once, size_differs, demand_missed, otherwise, tag_tests}
use Rattle.std.proofs.Common.{leb-false}
use Rattle.refusals.specs.Some.{some}
use Rattle.refusals.specs.SomeLaws.{none}
use Rattle.file_dng.specs.Tiff.ScanLaws.{times-past, field_past}
use Rattle.file_dng.specs.Tags.TagLaws.{listed-least}
use Rattle.file_dng.specs.Strip.StripLaws.{same_test}
use Rattle.file_dng.specs.declared.DngRead.{DngRead}
use Rattle.file_dng.specs.Refusals.{dng_refusal}
use Rattle.file_dng.specs.Reading.{black_at, accepted_dng, dng_answer, FrameReadBy, FrameRead}

-- a tag that is not listed beside the entries es, and is not 50714
pub record Unlisted (tag : ℕ) (es : List Entry) : Type 0 where
  pub not_black : tag ≡ 50714 → ⊥
  pub other : (row : ℕ) → row < listed es → tag ≡ (tag_at row).tag → ⊥

-- a value is asked of listed tags only
demand-listed : (es : List Entry) (row : ℕ) → row < demanded es → (demand_at row).row < listed es
unfolding demanded listed demand_at demands some
demand-listed es row h = from (has_black es) h
  where
    within : (rows limit : ℕ) → some rows (λ row. leb limit (demand_at row).row) ≡ false → row < rows → (demand_at row).row < limit
    within rows limit e h = leb-false limit (demand_at row).row (none rows (λ row. leb limit (demand_at row).row) e row h)

    from : (black : Bool) → row < cond black 13 11 → (demand_at row).row < cond black 14 12
    from true h = within 13 14 refl h
    from false h = within 11 12 refl h

module _ (file : List ℕ) (a : List Entry) (entry : Entry) (b : List Entry) (unlisted : Unlisted entry.tag (a ++ b)) where
  black-past : has_black (a ++ entry ∷ b) ≡ has_black (a ++ b)
  unfolding has_black
  black-past = rw (times-past 50714 a entry b unlisted.not_black)

  listed-past : listed (a ++ entry ∷ b) ≡ listed (a ++ b)
  unfolding listed
  listed-past = rw black-past

  demanded-past : demanded (a ++ entry ∷ b) ≡ demanded (a ++ b)
  unfolding demanded
  demanded-past = rw black-past

  -- the field of a listed tag, and so all that is asked of it
  module _ (row : ℕ) (h : row < listed (a ++ b)) where
    row-past : first_field file (tag_at row) (a ++ entry ∷ b) ≡ first_field file (tag_at row) (a ++ b)
    row-past = field_past file (tag_at row) a entry b (unlisted.other row h)

    absent-past : absent file (a ++ entry ∷ b) row ≡ absent file (a ++ b) row
    unfolding absent
    absent-past = rw row-past

    outside-past : value_outside file (a ++ entry ∷ b) row ≡ value_outside file (a ++ b) row
    unfolding value_outside field_outside
    outside-past = rw row-past

    once-past : not_once (a ++ entry ∷ b) row ≡ not_once (a ++ b) row
    unfolding not_once
    once-past = rw (times-past (tag_at row).tag a entry b (unlisted.other row h))

    value-past : (index : ℕ) → value_at file (a ++ entry ∷ b) (tag_at row) index ≡ value_at file (a ++ b) (tag_at row) index
    unfolding value_at
    value-past index = rw row-past

    value-of-past : value_of file (a ++ entry ∷ b) row ≡ value_of file (a ++ b) row
    unfolding value_of
    value-of-past = value-past 0

  -- a row that is always listed
  needed : (row : ℕ) → row < 12 → row < listed (a ++ b)
  needed row h = omega (arith, listed-least (a ++ b))

  start-past : strip_start file (a ++ entry ∷ b) ≡ strip_start file (a ++ b)
  start-past = value-of-past StripOffsets (needed StripOffsets (omega arith))

  length-past : strip_length file (a ++ entry ∷ b) ≡ strip_length file (a ++ b)
  length-past = value-of-past StripByteCounts (needed StripByteCounts (omega arith))

  some-past : (f g : ℕ → Bool) → ((row : ℕ) → row < listed (a ++ b) → f row ≡ g row) → some (listed (a ++ entry ∷ b)) f ≡ some (listed (a ++ b)) g
  some-past f g h = rw listed-past (same_test (listed (a ++ b)) f g h)

  tags-past : (s : Shape) → tag_tests file (a ++ entry ∷ b) s ≡ tag_tests file (a ++ b) s
  unfolding tag_tests outside strip_outside otherwise size_differs demand_missed
  tags-past s =
      rw (
        some-past (λ row. value_outside file (a ++ entry ∷ b) row) (λ row. value_outside file (a ++ b) row) outside-past,
        some-past (λ row. not_once (a ++ entry ∷ b) row) (λ row. not_once (a ++ b) row) once-past,
        some-past (λ row. absent file (a ++ entry ∷ b) row) (λ row. absent file (a ++ b) row) absent-past,
        absent-past StripOffsets (needed StripOffsets (omega arith)),
        absent-past StripByteCounts (needed StripByteCounts (omega arith)),
        start-past,
        length-past,
        value-of-past ImageWidth (needed ImageWidth (omega arith)),
        value-of-past ImageLength (needed ImageLength (omega arith)),
        demanded-past,
        same_test (demanded (a ++ b)) (λ row. demand_missed file (a ++ entry ∷ b) row) (λ row. demand_missed file (a ++ b) row) missed-past,
      )
    where
      missed-past : (row : ℕ) → row < demanded (a ++ b) → demand_missed file (a ++ entry ∷ b) row ≡ demand_missed file (a ++ b) row
      missed-past row h = rw (value-past (demand_at row).row (demand-listed (a ++ b) row h) (demand_at row).index)

  refusal-past : (s : Shape) (frame room : ℕ) → dng_refusal file (a ++ entry ∷ b) s frame room ≡ dng_refusal file (a ++ b) s frame room
  unfolding dng_refusal
  refusal-past s frame room = rw (tags-past s, start-past)

  black-level-past : (index : ℕ) → black_at file (a ++ entry ∷ b) index ≡ black_at file (a ++ b) index
  unfolding black_at tag_at tags
  black-level-past index = rw (black-past, field_past file (tag_at BlackLevel) a entry b unlisted.not_black)

  answer-past : accepted_dng file (a ++ entry ∷ b) ≡ accepted_dng file (a ++ b)
  answer-past = rw (row-past NoiseProfile (needed NoiseProfile (omega arith)), black-level-past 0, black-level-past 1, black-level-past 2, black-level-past 3)

  -- the answer and every word of the samples are those without the entry
  pub passed_over : {s : Shape} {frame : ℕ} {samples : List ℕ} {answer : DngRead} {samples' : List ℕ} → FrameReadBy (a ++ entry ∷ b) file s frame samples answer samples' → FrameReadBy (a ++ b) file s frame samples answer samples'
  unfolding dng_answer
  passed_over {s} {frame} {samples} r =
      record {
        answered = r.answered ∙ rw (refusal-past s frame (length samples), answer-past);
        stored = r.stored ∙ rw (refusal-past s frame (length samples), start-past);
      }

-- a file whose directory has such an entry is read as if it had not
pub read_past : (file : List ℕ) (a : List Entry) (entry : Entry) (b : List Entry) → entries file ≡ a ++ entry ∷ b → Unlisted entry.tag (a ++ b) →
    {s : Shape} {frame : ℕ} {samples : List ℕ} {answer : DngRead} {samples' : List ℕ} → FrameRead file s frame samples answer samples' → FrameReadBy (a ++ b) file s frame samples answer samples'
read_past file a entry b e unlisted r = passed_over file a entry b unlisted (rw e at r)
