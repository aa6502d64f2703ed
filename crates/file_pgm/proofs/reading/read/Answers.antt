-- The samples are stored once all tests have passed.
use Rattle.std.proofs.Common.{rules, arith, refl, sym, ap, ◌∙◌, ◌≡◌, ◌%◌, Err}
use Rattle.file_pgm.specs.Prelude.{length, drop, pgm_header, samples_of}
use Rattle.refusals.specs.AfterLaws.{kept, made}
use Rattle.file_pgm.specs.declared.reading.Size.{Size}
use Rattle.file_pgm.specs.Form.{file_length}
use Rattle.file_pgm.specs.Reading.{samples_as, samples_in, accepted_pgm}
use Rattle.file_pgm.specs.FormLaws.{area-whole}
use Rattle.file_pgm.specs.HeaderLaws.{form-sized, form-long}
use Rattle.file_pgm.specs.Acceptance.{readable, sound}
use Rattle.file_pgm.proofs.Answered.{not-zero, answer-refused, answer-accepted, read-tested}
use Rattle.file_pgm.proofs.reading.read.Goals as goal

pub returns-in_err-read_refusal : goal.returns-in_err-read_refusal
returns-in_err-read_refusal c =
    let r : c.from_residual.result ≡ Err c.in_err-read_refusal.field-0.0 = search rules in
    let e = c.in_err-read_refusal.ensures ∙ read-tested _ _ c.size_in-size.ensures _ in
    rw r
    (record {
      answer = answer-refused c.in_err-read_refusal.field-0.0 _ _ _ e;
      stored = kept _ _ _ e (not-zero c.in_err-read_refusal.field-0.0);
      file = λ z. absurd (not-zero c.in_err-read_refusal.field-0.0 z);
    })

pub header_length-requires : goal.header_length-requires
header_length-requires c =
    let ok = form-sized _ _ _ (readable _ _ _ _ (sym c.in_ok-read_refusal.ensures)).0 in
    (omega (arith, ok.wide.most), omega (arith, ok.high.most))

pub fill-requires : goal.fill-requires
unfolding file_length
fill-requires c =
    let fit = readable _ _ _ _ (sym c.in_ok-read_refusal.ensures) in
    (omega (arith, form-long _ _ _ fit.0, fit.1, c.header_length.ensures.0), ap (λ n. n % 64) fit.1 ∙ area-whole (form-sized _ _ _ fit.0))

pub returns : goal.returns
unfolding samples_in samples_as
returns c =
    let bytes = c.args.bytes.now in
    let size = c.size_in-size.ensures in
    let e = c.in_ok-read_refusal.ensures ∙ read-tested _ _ size _ in
    let stored =
    c.fill.ensures ∙ ap (λ n. samples_of (drop n bytes)) (c.header_length.ensures.0 ∙ ap (λ (s : Size). length (pgm_header s.width s.height)) size) in
    record {
      answer = ap (λ (s : Size). accepted_pgm s.width s.height) size ∙ answer-accepted _ _ _ e;
      stored = made _ _ _ e refl stored;
      file = λ _.
          rw (size, stored)
          (sound bytes (record { below = λ k. omega (arith, c.type_inv.bytes k) }) (length c.args.frame.now) (sym e)).0;
    }
