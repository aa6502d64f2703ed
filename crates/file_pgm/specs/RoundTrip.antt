-- "What is read after writing is the same frame, and what is accepted is written back to the same bytes."
use Rattle.std.specs.Prelude.{◌≡◌}
use Rattle.algebra.specs.Prelude.{sym, ap, ap₂, ◌∙◌, List, ℕ, length}
use Rattle.refusals.specs.AfterLaws.{result-made}
use Rattle.file_pgm.specs.declared.PgmRead.{PgmRead}
use Rattle.file_pgm.specs.Form.{PgmFile}
use Rattle.file_pgm.specs.Writing.{WritesPgm}
use Rattle.file_pgm.specs.Reading.{read_refusal, accepted_pgm, pgm_answer, ReadsPgm}
use Rattle.file_pgm.specs.HeaderLaws.{width_read, height-read}
use Rattle.file_pgm.specs.Acceptance.{write-sound, write-complete, of-form, complete, samples-read}

-- a file is read as what it holds
module _ {bytes frame frame' : List ℕ} {r : PgmRead} (reads : ReadsPgm bytes frame frame' r) where
  pub read-file : {width height : ℕ} {samples : List ℕ} → PgmFile bytes width height samples → length frame ≡ length samples → (r ≡ accepted_pgm width height) × (frame' ≡ samples)
  unfolding pgm_answer
  read-file {width} {height} {samples} p e =
      let z : read_refusal bytes (length frame) ≡ 0 = ap (read_refusal bytes) (e ∙ p.long) ∙ complete p in (
        result-made _ _ _ z reads.answer ∙ ap₂ accepted_pgm (width_read (of-form p)) (height-read (of-form p)),
        result-made _ _ _ z reads.stored ∙ samples-read p,
      )

-- "What is read after writing is the same frame"
pub write_read : {width height : ℕ} {frame bytes bytes' other other' : List ℕ} {r : PgmRead}
    → WritesPgm width height frame bytes bytes' 0 → ReadsPgm bytes' other other' r → length other ≡ length frame → (r ≡ accepted_pgm width height) × (other' ≡ frame)
write_read {width} {height} {frame} {bytes} {bytes'} writes reads e =
    let z = sym writes.answer in
    let p = (write-sound width height frame bytes z).0 in
    let is = result-made _ _ _ z writes.stored in
    read-file reads (record { allowed = p.allowed; long = p.long; small = p.small; is = is }) e

-- "what is accepted is written back to the same bytes"
pub read-write : {bytes frame frame' other other' : List ℕ} {r : PgmRead} {number : ℕ}
    → ReadsPgm bytes frame frame' r → r.refusal ≡ 0 → WritesPgm r.width r.height frame' other other' number → length other ≡ length bytes → (number ≡ 0) × (other' ≡ bytes)
read-write {bytes} {frame} {frame'} {other} reads accepted writes e =
    let p = reads.file accepted in
    let z = write-complete other p e in
    (writes.answer ∙ z, result-made _ _ _ z writes.stored ∙ sym p.is)
