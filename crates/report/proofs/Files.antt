-- What a program prints for a file, from what the file check answered and what reading found.
use Rattle.std.specs.Prelude.{◌≡◌, ◌++◌, ◌≤◌, ◌<◌}
use Rattle.report.specs.Prelude.{sym, ap, subst, ◌∙◌, true, false, List, ℕ, arith, Allowed, Header, FileBurst, too_large, refusal}
use lib.ListN.{length, take, drop, length-append, length-drop}
use lib.Seq.{length-take-le, take_at}
use borrow.Author.Tests.{lt-ltb, le-ltb, eq-eqb, ne_eqb}
use Rattle.geometry.specs.declared.Shape.{Shape}
use Rattle.geometry.specs.Shape.{sample_length, length_refusal}
use Rattle.admit_length.specs.Order.{shape_tests}
use Rattle.geometry.specs.ShapeLaws.{below-count}
use Rattle.refusals.specs.Numbers as no
use Rattle.refusals.specs.TestLaws.{among, passed}
use Rattle.noise.specs.LevelLaws.{levels-most, strength_most}
use Rattle.file_burst.specs.declared.FileAnswer.{FileAnswer}
use Rattle.file_burst.specs.Lines.Part.{Part, refused, found, number_of}
use Rattle.file_burst.specs.Head.Head.{header_refusal, head_of}
use Rattle.file_burst.specs.Head.HeadLaws.{HeadRead, packed-allowed, head-complete}
use Rattle.file_burst.specs.Reading.{reading, file_check, samples_after, FileRead}
use Rattle.file_burst.specs.Acceptance.{Accepted, sound-number, complete}
use Rattle.report.specs.Program.{file_most, program_side, taken, checked, answer_text, program_text}
use Rattle.report.specs.Inner.{room, burst_of, Holds}

-- the file check has no test of lengths
abbrev pub no_test : Shape → ℕ
no_test shape = 0

abbrev room_test : (count : ℕ) → Shape → ℕ
room_test count shape = length_refusal no.wrong_sample_length (sample_length shape) (room count)

refused-part : (printed : FileBurst → List ℕ) (part : Part FileBurst) {number : ℕ} → number ≡ number_of part → (number ≡ 0 → ⊥) → answer_text printed part ≡ refusal number
unfolding answer_text
refused-part printed (refused n) e h = ap refusal (sym e)
refused-part printed (found burst rest) e h = absurd (h e)

module _ (shape : Shape) where
  taken_true : shape.width ≡ program_side → shape.height ≡ program_side → taken shape ≡ true
  unfolding taken
  taken_true w h = rw (eq-eqb shape.width program_side w, eq-eqb shape.height program_side h)

  pub wide-other : (shape.width ≡ program_side → ⊥) → taken shape ≡ false
  unfolding taken
  wide-other w = rw (ne_eqb shape.width program_side w)

  pub high-other : shape.width ≡ program_side → (shape.height ≡ program_side → ⊥) → taken shape ≡ false
  unfolding taken
  high-other w h = rw (eq-eqb shape.width program_side w, ne_eqb shape.height program_side h)

  frames-room : shape.pitch ≡ shape.width → shape.width ≡ program_side → shape.height ≡ program_side → sample_length shape ≡ room shape.count
  unfolding sample_length
  frames-room p w h = rw (p, w, h)

same_length : (number : ℕ) {right length : ℕ} → right ≡ length → length_refusal number right length ≡ 0
unfolding length_refusal
same_length number {right} {length} e = rw (eq-eqb length right (sym e))

-- what the tests of the header let through
record Passed (header : Header) : Type 0 where
  allowed : Allowed header.shape
  reference_below : header.reference < header.shape.count
  shot_most : header.shot ≤ 65536
  read_most : header.read ≤ 4194304
  strength_most : header.strength ≤ 1024

admitted : (header : Header) → header.shape.pitch ≡ header.shape.width → header_refusal header ≡ 0 → Passed header
unfolding header_refusal shape_tests
admitted header packed e =
    let most = levels-most header.shot header.read (passed e (search among depth 20)) in
    record {
      allowed = packed-allowed header.shape packed (passed e (search among depth 20)) (passed e (search among depth 20));
      reference_below = below-count header.shape header.reference (passed e (search among depth 20));
      shot_most = most.0;
      read_most = most.1;
      strength_most = strength_most header.strength (passed e (search among depth 20));
    }

-- a list whose front was lent and holds `part`
module _ {A : Type 0} (n : ℕ) (l part : List A) (fits : n ≤ length l) (same : length part ≡ n) where
  pub front-is : take n (part ++ drop n l) ≡ part
  front-is = take_at part (drop n l) n same

  pub front_length : length (part ++ drop n l) ≡ length l
  front_length = length-append part (drop n l) ∙ omega (arith, length-drop n l)

-- the samples of a file that the check accepts, by its head
pub record Headed (file : List ℕ) (header : Header) : Type 0 where
  pub samples : List ℕ
  pub accepted : Accepted no_test file (burst_of header samples)

pub headed : {file rest : List ℕ} {header : Header} → file_check file ≡ 0 → found header rest ≡ head_of file → Headed file header
headed {file} {rest} {header} e f =
    let (burst, a) = sound-number no_test file e in
    let g = a.grammar in
    let read : HeadRead file burst.header g.after_values = record { after_names = g.after_names; named = g.named; valued = g.valued; sixteen = g.sixteen; packed = g.packed; passed = a.header } in
    let both = f ∙ head-complete read in
    let same : header ≡ burst.header = cc in
    record { samples = burst.samples; accepted = subst (λ (h : Header). Accepted no_test file (burst_of h burst.samples)) (sym same) a }

pub headed-few : {file : List ℕ} {header : Header} → Headed file header → header.shape.count ≤ 8
headed-few {file} {header} f = (admitted header f.accepted.grammar.packed f.accepted.header).allowed.few

-- what both programs print for a file
module _ (file : List ℕ) where
  pub long-text : file_most < length file → (printed : FileBurst → List ℕ) → program_text printed file ≡ too_large
  unfolding program_text
  long-text h printed = rw (lt-ltb file_most (length file) h)

  module _ (short : length file ≤ file_most) where
    pub refused-text : {number : ℕ} → number ≡ file_check file → (number ≡ 0 → ⊥) → (printed : FileBurst → List ℕ) → program_text printed file ≡ refusal number
    unfolding program_text
    refused-text e h printed = rw (le-ltb file_most (length file) short) (refused-part printed (checked file) e h)

    module _ {burst : FileBurst} (a : Accepted no_test file burst) where
      pub other_text : taken burst.header.shape ≡ false → (printed : FileBurst → List ℕ) → program_text printed file ≡ too_large
      unfolding program_text answer_text
      other_text e printed = rw (le-ltb file_most (length file) short, complete no_test file burst a, e)

      pub burst-text : taken burst.header.shape ≡ true → (printed : FileBurst → List ℕ) → program_text printed file ≡ printed burst
      unfolding program_text answer_text
      burst-text e printed = rw (le-ltb file_most (length file) short, complete no_test file burst a, e)

    pub head-text : {number : ℕ} → refused number ≡ head_of file → (printed : FileBurst → List ℕ) → program_text printed file ≡ refusal number
    unfolding program_text answer_text reading
    head-text e printed = rw (le-ltb file_most (length file) short, sym e)

    module _ {header : Header} (f : Headed file header) where
      pub wide-text : (header.shape.width ≡ program_side → ⊥) → (printed : FileBurst → List ℕ) → program_text printed file ≡ too_large
      wide-text w = other_text f.accepted (wide-other header.shape w)

      module _ (w : header.shape.width ≡ program_side) where
        pub high-text : (header.shape.height ≡ program_side → ⊥) → (printed : FileBurst → List ℕ) → program_text printed file ≡ too_large
        high-text h = other_text f.accepted (high-other header.shape w h)

        -- the file is read into the front of the lent samples
        pub opens : (samples : List ℕ) {part : List ℕ} {answer : FileAnswer} → header.shape.height ≡ program_side →
            let n = room header.shape.count in
            n ≤ length samples → length part ≡ n → FileRead file (take n samples) answer part → Holds file header (take n (part ++ drop n samples))
        opens samples {part} {answer} h fits same read =
            let count = header.shape.count in
            let n = room count in
            let p = admitted header f.accepted.grammar.packed f.accepted.header in
            let a = f.accepted in
            let again : Accepted (room_test count) file (burst_of header f.samples) =
            record { grammar = a.grammar; header = a.header; measured = same_length no.wrong_sample_length (frames-room header.shape a.grammar.packed w h); small = a.small } in
            let stored : part ≡ f.samples =
            (rw (length-take-le n samples fits) at read.stored) ∙ ap (λ found. samples_after found (take n samples)) (complete (room_test count) file (burst_of header f.samples) again) in
            let holds : Holds file header f.samples =
            record {
              taken = record {
                wide = w;
                high = h;
                sixteen = a.grammar.sixteen;
                packed = a.grammar.packed;
                allowed = p.allowed;
                reference_below = p.reference_below;
                shot_most = p.shot_most;
                read_most = p.read_most;
                strength_most = p.strength_most;
                long = ap length (sym stored) ∙ same;
                small = a.small;
              };
              text = burst-text a (taken_true header.shape w h);
            } in
            subst (λ (l : List ℕ). Holds file header l) (sym (front-is n samples part fits same ∙ stored)) holds
