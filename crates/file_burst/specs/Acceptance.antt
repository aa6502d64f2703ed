-- A file is accepted exactly when it is a file of the grammar whose values pass the tests.
use Rattle.std.specs.Prelude.{◌≡◌, ◌*◌}
use Rattle.file_burst.specs.Prelude.{List, [], ℕ, Shape, ValuesFit, found, number_of, header_refusal, head_of}
use Rattle.file_burst.specs.Lines.PartLaws.{Sound, unless-sound, sound-at, sound-found, then-sound}
use Rattle.file_burst.specs.Head.HeadLaws.{HeadRead, head-sound, head-complete}
use Rattle.file_burst.specs.Burst.{FileBurst}
use Rattle.file_burst.specs.Grammar.{BurstFile}
use Rattle.file_burst.specs.Rows.{row_lines, frames_of}
use Rattle.file_burst.specs.RowLaws.{above_at, above-none, SmallRows, rows-sound, rows-complete, ended-sound}
use Rattle.file_burst.specs.Reading.{body_of, reading}

-- the grammar, and refusals 1, 2, 3, 9 and 10, then `lengthTest` (4, or nothing in the file check), then 11
pub record Accepted (lengthTest : Shape → ℕ) (file : List ℕ) (burst : FileBurst) : Type 0 where
  pub grammar : BurstFile file burst
  pub header : header_refusal burst.header ≡ 0
  pub measured : lengthTest burst.header.shape ≡ 0
  pub small : ValuesFit burst.samples

module _ (lengthTest : Shape → ℕ) (file : List ℕ) where
  abbrev Ends : FileBurst → List ℕ → Type 0
  Ends burst rest = Accepted lengthTest file burst × (rest ≡ [])

  reading-sound : Sound Ends (reading lengthTest file)
  unfolding reading body_of frames_of
  reading-sound =
      then-sound (HeadRead file) Ends (head_of file) (body_of lengthTest) (head-sound file)
      (λ header body h.
      let count = header.shape.count * header.shape.height in
      let width = header.shape.width in
      let AllRows : List ℕ → List ℕ → Type 0 = λ samples rest. SmallRows count width body samples [] × (rest ≡ []) in
      unless-sound Ends (lengthTest header.shape) _
      (λ measured. then-sound AllRows Ends (frames_of header.shape body) _ (ended-sound (SmallRows count width body) (row_lines count width body) (rows-sound count width body))
      (λ samples rest r. (
        record {
          grammar = record { after_names = h.after_names; after_values = body; named = h.named; valued = h.valued; sixteen = h.sixteen; packed = h.packed; sampled = r.0.0 };
          header = h.passed;
          measured = measured;
          small = record { most = above_at 4095 samples r.0.1 };
        },
        r.1,
      ))))

  -- what is read is a file of the grammar, whole
  pub sound : (burst : FileBurst) (rest : List ℕ) → reading lengthTest file ≡ found burst rest → Accepted lengthTest file burst × (rest ≡ [])
  sound burst rest e = sound-at Ends e reading-sound

  -- the number 0 is acceptance
  pub sound-number : number_of (reading lengthTest file) ≡ 0 → (burst : FileBurst) × Accepted lengthTest file burst
  sound-number e = let (burst, rest, is, s) = sound-found Ends (reading lengthTest file) e reading-sound in (burst, s.0)

  -- each file of the grammar is read, and as what it holds
  pub complete : (burst : FileBurst) → Accepted lengthTest file burst → reading lengthTest file ≡ found burst []
  unfolding reading body_of frames_of
  complete burst a =
      let g = a.grammar in
      let h : HeadRead file burst.header g.after_values = record { after_names = g.after_names; named = g.named; valued = g.valued; sixteen = g.sixteen; packed = g.packed; passed = a.header } in
      rw (head-complete h, a.measured, rows-complete g.sampled (above-none 4095 burst.samples a.small.most))
