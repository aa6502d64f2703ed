-- The reading of a file by the numbers that the code found for its parts.
use Rattle.std.specs.Prelude.{◌≡◌, ◌*◌}
use Rattle.file_burst.specs.Prelude.{arith, sym, ap, ◌∙◌, false, List, [], ℕ, Shape, sample_length, Allowed, Part, refused, found, number_of, ◌then◌, mapped, above, next_values, Header, header_refusal, head_of}
use native.Mathlib.Nat.{mul_assoc, mul_comm}
use Rattle.refusals.specs.TestLaws.{among, passed}
use Rattle.refusals.specs.declared.Refusal.{Refusal}
use Rattle.refusals.specs.Refused as code
use Rattle.refusals.specs.RefusedLaws.{some-number}
use Rattle.admit_length.specs.Order.{shape_tests}
use Rattle.file_burst.specs.Lines.PartLaws.{both-sound, sound-at, sound-found, unless-stops, unless-goes, number-mapped, number-stops}
use Rattle.file_burst.specs.Lines.ScanLaws.{Next, next-all}
use Rattle.file_burst.specs.Head.HeadLaws.{HeadRead, packed-allowed, head-sound}
use Rattle.file_burst.specs.Burst.{FileBurst}
use Rattle.file_burst.specs.Rows.{row_lines, frames_of}
use Rattle.file_burst.specs.RowLaws.{SmallRows, rows-sound, ended-sound}
use Rattle.file_burst.specs.Reading.{body_of, reading}
use Rattle.file_burst.proofs.Next.{rows_next}

pub not-zero : (refusal : Refusal) → code.refusal_number refusal ≡ 0 → ⊥
not-zero refusal z = let some = some-number refusal in absurd (omega (arith, z, some))

-- an accepted head's shape is allowed
pub head-allowed : (file : List ℕ) (header : Header) (rest : List ℕ) → found header rest ≡ head_of file → Allowed header.shape
unfolding header_refusal shape_tests
head-allowed file header rest e =
    let read = sound-at (HeadRead file) (sym e) (head-sound file) in
    packed-allowed header.shape read.packed (passed read.passed (search among depth 20)) (passed read.passed (search among depth 20))

-- and its rows have no spare words
pub head-packed : (file : List ℕ) (header : Header) (rest : List ℕ) → found header rest ≡ head_of file → header.shape.pitch ≡ header.shape.width
head-packed file header rest e = (sound-at (HeadRead file) (sym e) (head-sound file)).packed

-- frames that are not refused are the next values, to the end of the file
module _ (shape : Shape) (packed : shape.pitch ≡ shape.width) (bytes : List ℕ) where
  pub frames-next : number_of (frames_of shape bytes) ≡ 0
      → (frames_of shape bytes ≡ found (next_values (sample_length shape) bytes) []) × (above 4095 (next_values (sample_length shape) bytes) ≡ false)
  unfolding frames_of sample_length
  frames-next e =
      let count = shape.count * shape.height in
      let width = shape.width in
      let P : List ℕ → List ℕ → Type 0 = λ samples rest. Next (count * width) bytes samples rest × SmallRows count width bytes samples rest in
      let (samples, rest, is, all-rows) =
      sound-found (λ samples rest. P samples [] × (rest ≡ [])) (frames_of shape bytes) e
      (ended-sound P (row_lines count width bytes)
      (both-sound (Next (count * width) bytes) (SmallRows count width bytes) (row_lines count width bytes) (rows_next count width bytes) (rows-sound count width bytes))) in
      let order : count * width ≡ shape.count * (shape.pitch * shape.height) =
      mul_assoc shape.count shape.height width ∙ ap (λ (k : ℕ). shape.count * k) (mul_comm shape.height width ∙ ap (λ (n : ℕ). n * shape.height) (sym packed)) in
      let all : next_values (shape.count * (shape.pitch * shape.height)) bytes ≡ samples = ap (λ (k : ℕ). next_values k bytes) (sym order) ∙ next-all (count * width) bytes samples [] all-rows.0.0 in
      (rw all (is ∙ ap (found samples) all-rows.1), rw all all-rows.0.1.1)

-- without refusal 4
pub body-unmeasured : (header : Header) (bytes : List ℕ) → number_of (body_of (λ shape. 0) header bytes) ≡ number_of (frames_of header.shape bytes)
unfolding body_of
body-unmeasured header bytes = number-mapped _ (frames_of header.shape bytes)

module _ (lengthTest : Shape → ℕ) (file : List ℕ) where
  pub head-refuses : {number : ℕ} → refused number ≡ head_of file → reading lengthTest file ≡ refused number
  unfolding reading
  head-refuses e = ap (λ (p : Part Header). p then body_of lengthTest) (sym e)

  module _ {header : Header} {rest : List ℕ} (head : found header rest ≡ head_of file) where
    body-decides : body_of lengthTest header rest ≡ reading lengthTest file
    unfolding reading
    body-decides = ap (λ (p : Part Header). p then body_of lengthTest) head

    burst : List ℕ → FileBurst
    burst samples = record { header = header; samples = samples }

    pub length-refuses : {r : ℕ} → r ≡ lengthTest header.shape → (r ≡ 0 → ⊥) → reading lengthTest file ≡ refused r
    unfolding body_of
    length-refuses e h = sym body-decides ∙ sym (unless-stops _ e h)

    module _ {l r : ℕ} (length : l ≡ lengthTest header.shape) (right : l ≡ 0) (frames : r ≡ number_of (frames_of header.shape rest)) where
      frames-decide : mapped burst (frames_of header.shape rest) ≡ reading lengthTest file
      unfolding body_of burst
      frames-decide = unless-goes _ length right ∙ body-decides

      pub frames-refuse : (r ≡ 0 → ⊥) → reading lengthTest file ≡ refused r
      frames-refuse h = sym frames-decide ∙ ap (mapped burst) (number-stops (frames_of header.shape rest) frames h)

      pub frames-accept : r ≡ 0 → reading lengthTest file ≡ found (record { header = header; samples = next_values (sample_length header.shape) rest }) []
      unfolding burst
      frames-accept z = sym frames-decide ∙ ap (mapped burst) (frames-next header.shape (head-packed file header rest head) rest (sym frames ∙ z)).0
