-- A refusal returns before the first store; acceptance puts the header and then the samples, over all of the bytes.
use Rattle.std.proofs.Common.{rules, arith, refl, sym, ◌∙◌, ◌≡◌, Err}
use Prim.Native.Nat.{zero-le}
use Rattle.refusals.specs.AfterLaws.{kept, made}
use Rattle.printing.specs.PutLaws.{printed-then}
use Rattle.file_pgm.specs.Form.{file_of, file_length}
use Rattle.file_pgm.specs.FormLaws.{sized, area-least, file-long, printed-whole}
use Rattle.file_pgm.specs.Acceptance.{write-sound}
use Rattle.file_pgm.proofs.Answered.{not-zero}
use Rattle.file_pgm.proofs.writing.write.Goals as goal

pub returns-in_err-write_refusal : goal.returns-in_err-write_refusal
returns-in_err-write_refusal c =
    let r : c.from_residual.result ≡ Err c.in_err-write_refusal.field-0.0 = search rules in
    let e = c.in_err-write_refusal.ensures in
    rw r (record { answer = e; stored = kept _ _ _ e (not-zero c.in_err-write_refusal.field-0.0) })

pub put_header-start-requires : goal.put_header-start-requires
unfolding file_length
put_header-start-requires c =
    let fit = write-sound _ _ _ _ (sym c.in_ok-write_refusal.ensures) in
    omega (arith, area-least (sized fit.0.allowed), fit.1)

pub put_frame-requires : goal.put_frame-requires
unfolding file_length
put_frame-requires c =
    let fit = write-sound _ _ _ _ (sym c.in_ok-write_refusal.ensures) in
    let put = c.put_header-start.ensures.0 in
    omega (arith, put.same, put.place, fit.1, fit.0.long)

pub returns : goal.returns
unfolding file_of
returns c =
    let e = c.in_ok-write_refusal.ensures in
    let fit = write-sound _ _ _ _ (sym e) in
    record {
      answer = e;
      stored = made _ _ _ e refl (printed-whole (printed-then zero-le c.put_header-start.ensures.0 c.put_frame.ensures) (fit.1 ∙ sym (file-long _ _ _ fit.0.long)));
    }
