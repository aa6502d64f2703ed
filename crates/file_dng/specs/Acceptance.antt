-- A file is accepted exactly when it has the structure, the tags and the values that are asked for, and the burst has room for its frame.
use Rattle.std.specs.Prelude.{◌≡◌, ◌||◌, ◌∷◌, ◌++◌, ◌+◌, ◌*◌, ◌%◌, ◌≤◌, ◌<◌}
use Rattle.file_dng.specs.Prelude.{refl, sym, ◌∙◌, Bool, false, not, List, [], ℕ, arith, eqb, ltb, length, Shape, first, size_allowed, count_allowed, size_refusal, count_refusal, reference_refusal, row_allowed, row_refusal, sample_length, length_refusal, shape_tests, frame_tests, Entry, header_wrong, directory_start, entry_count, directory_outside, times_of, first_field, field_outside, value_at, ImageWidth, ImageLength, StripOffsets, StripByteCounts, tag_at, demand_at, listed, demanded, absent, value_of, strip_start, strip_length, value_outside, strip_outside, outside, not_once, size_differs, demand_missed, otherwise, tag_tests, strip_sample, strip_refusal}
use borrow.Author.Tests.{eq-eqb, ne_eqb, eqb-true, eqb-false, ltb-false, le-ltb, le-leb, lt-leb, not-false}
use Rattle.refusals.specs.Numbers as no
use Rattle.refusals.specs.TestLaws.{here, there, passed, goes, both-passed, lone, refuse-not}
use Rattle.geometry.specs.Fits.{Allowed}
use Rattle.admit_length.specs.OrderLaws.{frames-allowed}
use Rattle.geometry.specs.ShapeLaws.{below-count, right-length}
use Rattle.refusals.specs.Some.{some}
use Rattle.refusals.specs.SomeLaws.{none, not-one}
use Rattle.file_dng.specs.Tiff.Bytes.{short}
use Rattle.file_dng.specs.Tiff.FieldLaws.{HasRight, has-size, size-has}
use Rattle.file_dng.specs.Tags.TestLaws.{neither}
use Rattle.file_dng.specs.Tags.TagLaws.{listed-least, listed-most, tag-sized}
use Rattle.file_dng.specs.Refusals.{room_tests, dng_refusal}

-- past 19: "header .. II 42", and directory, strip and the listed tags' values in the file
pub record Inside (file : List ℕ) (es : List Entry) : Type 0 where
  pub header : 8 ≤ length file
  pub order : short file 0 ≡ 73 + 256 * 73
  pub version : short file 2 ≡ 42
  pub directory : directory_start file + 2 + 12 * entry_count file ≤ length file
  pub values : (row : ℕ) → row < listed es → (first_field file (tag_at row) es).at + (first_field file (tag_at row) es).size * (tag_at row).count ≤ length file
  pub strip : strip_start file es + strip_length file es ≤ length file

-- past 20: each listed tag stands once
pub record Once (es : List Entry) : Type 0 where
  pub once : (row : ℕ) → row < listed es → times_of (tag_at row).tag es ≡ 1

-- past 21: of right type and count, with the values asked for
pub record AsAsked (file : List ℕ) (es : List Entry) (s : Shape) : Type 0 where
  pub right : (row : ℕ) → row < listed es → HasRight (tag_at row) es
  pub width : value_of file es ImageWidth ≡ s.width
  pub height : value_of file es ImageLength ≡ s.height
  pub whole : strip_length file es ≡ 2 * (s.width * s.height)
  pub values : (row : ℕ) → row < demanded es → value_at file es (tag_at (demand_at row).row) (demand_at row).index ≡ (demand_at row).value

-- past 1, 2, 3 and 23, 4 and 11
pub record Accepted (file : List ℕ) (es : List Entry) (s : Shape) (frame room : ℕ) : Type 0 where
  pub inside : Inside file es
  pub once : Once es
  pub asked : AsAsked file es s
  pub allowed : Allowed s
  pub below : frame < s.count
  pub long : room ≡ sample_length s
  pub small : (place : ℕ) → place < s.width * s.height → strip_sample file (strip_start file es) place ≤ 4095

-- a test that says "not equal"
differs-not : (a b : ℕ) → not (eqb a b) ≡ false → a ≡ b
differs-not a b e = eqb-true a b (not-false _ e)

equal-not : (a b : ℕ) → a ≡ b → not (eqb a b) ≡ false
equal-not a b e = rw (eq-eqb a b e)

-- 1, 2, 3 and 23 pass an allowed burst that has the frame
frames-pass : (s : Shape) (frame : ℕ) → Allowed s → frame < s.count → first (frame_tests s frame) ≡ 0
unfolding frame_tests shape_tests first size_refusal count_refusal reference_refusal row_refusal size_allowed count_allowed row_allowed
frames-pass s frame a h =
    rw (
      le-leb 64 s.width a.wide.least,
      le-leb s.width 4096 a.wide.most,
      eq-eqb (s.width % 64) 0 a.wide.whole,
      le-leb 64 s.height a.high.least,
      le-leb s.height 4096 a.high.most,
      eq-eqb (s.height % 64) 0 a.high.whole,
      le-leb 1 s.count a.some,
      le-leb s.count 8 a.few,
      lt-leb s.count frame h,
      le-leb s.width s.pitch a.row_least,
      le-leb s.pitch (s.width + 256) a.row-most,
    )

module _ (file : List ℕ) (es : List Entry) where
  -- rows that are always listed
  start_right : ((row : ℕ) → row < listed es → absent file es row ≡ false) → (absent file es StripOffsets ≡ false) × (absent file es StripByteCounts ≡ false)
  start_right h = (h StripOffsets (omega (arith, listed-least es)), h StripByteCounts (omega (arith, listed-least es)))

  inside-sound : ((row : ℕ) → row < listed es → absent file es row ≡ false) → outside file es ≡ false → Inside file es
  unfolding outside header_wrong directory_outside value_outside field_outside strip_outside
  inside-sound present e =
      let value = some (listed es) (λ row. value_outside file es row) in
      let few = ltb (length file) 8 in
      let order = not (eqb (short file 0) (73 + 256 * 73)) in
      let version = not (eqb (short file 2) 42) in
      let first = neither (header_wrong file) (directory_outside file || (value || strip_outside file es)) e in
      let second = neither (directory_outside file) (value || strip_outside file es) first.1 in
      let third = neither value (strip_outside file es) second.1 in
      let head = neither (few || order) version first.0 in
      let start = neither few order head.0 in
      let both = start_right present in
      let strip : ltb (length file) (strip_start file es + strip_length file es) ≡ false = rw (both.0, both.1) at third.1 in
      record {
        header = ltb-false (length file) 8 start.0;
        order = differs-not _ _ start.1;
        version = differs-not _ _ head.1;
        directory = ltb-false (length file) (directory_start file + 2 + 12 * entry_count file) second.0;
        values = λ row h. ltb-false (length file) ((first_field file (tag_at row) es).at + (first_field file (tag_at row) es).size * (tag_at row).count) (none (listed es) (λ row. value_outside file es row) third.0 row h);
        strip = ltb-false (length file) (strip_start file es + strip_length file es) strip;
      }

  inside-complete : ((row : ℕ) → row < listed es → absent file es row ≡ false) → Inside file es → outside file es ≡ false
  unfolding outside header_wrong directory_outside value_outside field_outside strip_outside
  inside-complete present i =
      let both = start_right present in
      rw (
        le-ltb (length file) 8 i.header,
        equal-not (short file 0) (73 + 256 * 73) i.order,
        equal-not (short file 2) 42 i.version,
        le-ltb (length file) (directory_start file + 2 + 12 * entry_count file) i.directory,
        not-one (listed es) (λ row. value_outside file es row) (λ row h. le-ltb (length file) ((first_field file (tag_at row) es).at + (first_field file (tag_at row) es).size * (tag_at row).count) (i.values row h)),
        both.0,
        both.1,
        le-ltb (length file) (strip_start file es + strip_length file es) i.strip,
      )

  once-sound : some (listed es) (λ row. not_once es row) ≡ false → Once es
  unfolding not_once
  once-sound e = record { once = λ row h. differs-not _ _ (none (listed es) (λ row. not_once es row) e row h) }

  once-complete : Once es → some (listed es) (λ row. not_once es row) ≡ false
  unfolding not_once
  once-complete o = not-one (listed es) (λ row. not_once es row) (λ row h. equal-not _ _ (o.once row h))

  module _ (s : Shape) where
    asked-parts : otherwise file es s ≡ false
        → (some (listed es) (λ row. absent file es row) ≡ false) × ((size_differs file es s ≡ false) × (some (demanded es) (λ row. demand_missed file es row) ≡ false))
    unfolding otherwise
    asked-parts e =
        let missed = some (demanded es) (λ row. demand_missed file es row) in
        let right = neither (some (listed es) (λ row. absent file es row)) (size_differs file es s || missed) e in
        (right.0, neither (size_differs file es s) missed right.1)

    present : otherwise file es s ≡ false → (row : ℕ) → row < listed es → absent file es row ≡ false
    present e = none (listed es) (λ row. absent file es row) (asked-parts e).0

    present-asked : AsAsked file es s → (row : ℕ) → row < listed es → absent file es row ≡ false
    unfolding absent
    present-asked a row h = ne_eqb _ _ (has-size file (tag_at row) (tag-sized row (omega (arith, listed-most es))) es (a.right row h))

    asked-sound : otherwise file es s ≡ false → AsAsked file es s
    unfolding absent size_differs demand_missed
    asked-sound e =
        let wide = not (eqb (value_of file es ImageWidth) s.width) in
        let high = not (eqb (value_of file es ImageLength) s.height) in
        let long = not (eqb (strip_length file es) (2 * (s.width * s.height))) in
        let parts = asked-parts e in
        let first = neither wide (high || long) parts.1.0 in
        let second = neither high long first.1 in
        record {
          right = λ row h. size-has file (tag_at row) es (eqb-false _ _ (present e row h));
          width = differs-not _ _ first.0;
          height = differs-not _ _ second.0;
          whole = differs-not _ _ second.1;
          values = λ row h. differs-not _ _ (none (demanded es) (λ row. demand_missed file es row) parts.1.1 row h);
        }

    asked-complete : AsAsked file es s → otherwise file es s ≡ false
    unfolding otherwise size_differs demand_missed
    asked-complete a =
        rw (
          not-one (listed es) (λ row. absent file es row) (present-asked a),
          equal-not _ _ a.width,
          equal-not _ _ a.height,
          equal-not _ _ a.whole,
          not-one (demanded es) (λ row. demand_missed file es row) (λ row h. equal-not _ _ (a.values row h)),
        )

    -- 19, 20 and 21 pass exactly there
    tags-sound : first (tag_tests file es s) ≡ 0 → Inside file es × (Once es × AsAsked file es s)
    unfolding tag_tests
    tags-sound e =
        let asked = refuse-not no.dng_value (otherwise file es s) tt (passed e (there (there here))) in (
          inside-sound (present asked) (refuse-not no.dng_structure (outside file es) tt (passed e here)),
          (once-sound (refuse-not no.dng_tag (some (listed es) (λ row. not_once es row)) tt (passed e (there here))), asked-sound asked),
        )

    tags-complete : Inside file es → Once es → AsAsked file es s → first (tag_tests file es s) ≡ 0
    unfolding tag_tests first
    tags-complete i o a = rw (inside-complete (present-asked a) i, once-complete o, asked-complete a)

    module _ (frame room : ℕ) where
      abbrev above : ℕ → Bool
      above place = ltb 4095 (strip_sample file (strip_start file es) place)

      frame_below : first (frame_tests s frame) ≡ 0 → frame < s.count
      unfolding frame_tests shape_tests
      frame_below e = below-count s frame (passed e (there (there here)))

      -- the number 0 is acceptance
      pub sound : dng_refusal file es s frame room ≡ 0 → Accepted file es s frame room
      unfolding dng_refusal room_tests strip_refusal
      sound e =
          let parts = both-passed (tag_tests file es s) _ e in
          let tagged = tags-sound parts.0 in
          let placed = both-passed (room_tests s frame room) _ parts.1 in
          let room-parts = both-passed (frame_tests s frame) _ placed.0 in
          record {
            inside = tagged.0;
            once = tagged.1.0;
            asked = tagged.1.1;
            allowed = frames-allowed s frame room-parts.0;
            below = frame_below room-parts.0;
            long = right-length no.wrong_sample_length (sample_length s) room tt (passed room-parts.1 here);
            small = λ place h. ltb-false 4095 (strip_sample file (strip_start file es) place) (none (s.width * s.height) above (refuse-not no.sample_value (some (s.width * s.height) above) tt (passed placed.1 here)) place h);
          }

      -- and whatever is as asked is accepted
      pub complete : Accepted file es s frame room → dng_refusal file es s frame room ≡ 0
      unfolding dng_refusal room_tests strip_refusal length_refusal first
      complete a =
          let small : strip_refusal file (strip_start file es) (s.width * s.height) ≡ 0 = rw (not-one (s.width * s.height) above (λ place h. le-ltb 4095 (strip_sample file (strip_start file es) place) (a.small place h))) in
          let long : length_refusal no.wrong_sample_length (sample_length s) room ≡ 0 = rw (equal-not room (sample_length s) a.long) in
          let burst = goes (frame_tests s frame) (length_refusal no.wrong_sample_length (sample_length s) room ∷ []) (sym (frames-pass s frame a.allowed a.below)) refl (sym long ∙ lone _) in
          sym
          (goes (tag_tests file es s) (room_tests s frame room ++ strip_refusal file (strip_start file es) (s.width * s.height) ∷ []) (sym (tags-complete a.inside a.once a.asked)) refl
          (goes (room_tests s frame room) (strip_refusal file (strip_start file es) (s.width * s.height) ∷ []) burst refl (sym small ∙ lone _)))
