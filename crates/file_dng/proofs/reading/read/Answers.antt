-- Each part of the tests refuses or lets the next decide; the samples are stored once all of them have passed.
use Rattle.std.proofs.Common.{rules, arith, refl, sym, ap, ◌≡◌, ◌∙◌, ◌*◌, ◌%◌, Ok, Err}
use Rattle.file_dng.specs.Prelude.{ℕ, Shape, output_length}
use Rattle.refusals.specs.TestLaws.{lone}
use Rattle.refusals.specs.RefusedLaws.{some-number, stopped, continued}
use Rattle.refusals.specs.Refused.{refusal_number}
use Rattle.refusals.specs.declared.Refusal.{Refusal}
use Rattle.file_dng.specs.Tags.TagLaws.{strip-inside}
use Rattle.file_dng.specs.Strip.StripLaws.{area-whole}
use Rattle.file_dng.specs.ReadingLaws.{refusal, acceptance, filled-by}
use Rattle.file_dng.specs.declared.reading.Values.{Values}
use Rattle.file_dng.specs.Code.{answered}
use Rattle.file_dng.specs.Refusals.{dng_refusal}
use Rattle.file_dng.specs.FrameLaws.{frame-fits}
use Rattle.file_dng.proofs.reading.read.Goals as goal

not-zero : (refusal : Refusal) → refusal_number refusal ≡ 0 → ⊥
not-zero refusal z = let some = some-number refusal in absurd (omega (arith, z, some))

-- a frame's samples
area : (s : Shape) {n : ℕ} → n ≡ output_length s → n ≡ s.width * s.height
unfolding output_length
area s e = e

pub returns-in_err-tag_refusal : goal.returns-in_err-tag_refusal
unfolding dng_refusal
returns-in_err-tag_refusal c =
    let e = c.in_err-tag_refusal.field-0.0 in
    let r : c.from_residual.result ≡ Err e = search rules in
    rw r (refusal _ _ _ _ _ (stopped e _ _ c.in_err-tag_refusal.ensures) (not-zero e) refl)

pub returns-in_err-room_refusal : goal.returns-in_err-room_refusal
unfolding dng_refusal
returns-in_err-room_refusal c =
    let e = c.in_err-room_refusal.field-0.0 in
    let r : c.from_residual-in_err-room_refusal.result ≡ Err e = search rules in
    rw r (refusal _ _ _ _ _ (continued _ _ c.in_ok-tag_refusal.ensures (stopped e _ _ c.in_err-room_refusal.ensures)) (not-zero e) refl)

pub output_length-area-requires : goal.output_length-area-requires
output_length-area-requires c = (frame-fits _ _ _ (sym c.in_ok-room_refusal.ensures)).allowed

pub strip_refusal-requires : goal.strip_refusal-requires
strip_refusal-requires c =
    let shape = c.args.shape in
    let long = area shape c.output_length-area.ensures.0 in
    let fits = frame-fits _ _ _ (sym c.in_ok-room_refusal.ensures) in (
      omega (arith, long, c.strip_start-start.ensures.0, (strip-inside _ _ _ (sym c.in_ok-tag_refusal.ensures)).inside),
      ap (λ n. n % 64) long ∙ area-whole shape.width shape.height fits.allowed.high.whole,
    )

pub returns-in_err-strip_refusal : goal.returns-in_err-strip_refusal
unfolding dng_refusal
returns-in_err-strip_refusal c =
    let e = c.in_err-strip_refusal.field-0.0 in
    let r : c.from_residual-in_err-strip_refusal.result ≡ Err e = search rules in
    let number = c.in_err-strip_refusal.ensures ∙ rw (c.strip_start-start.ensures.0, area c.args.shape c.output_length-area.ensures.0) in
    rw r (refusal _ _ _ _ _ (continued _ _ c.in_ok-tag_refusal.ensures (continued _ _ c.in_ok-room_refusal.ensures (number ∙ lone _))) (not-zero e) refl)

pub fill-requires-clause-height_in_bounds : goal.fill-requires-clause-height_in_bounds
fill-requires-clause-height_in_bounds c = omega (arith, c.strip_start-start.ensures.0, (strip-inside _ _ _ (sym c.in_ok-tag_refusal.ensures)).inside)

pub fill-requires-clause-frame_fits : goal.fill-requires-clause-frame_fits
fill-requires-clause-frame_fits c = frame-fits _ _ _ (sym c.in_ok-room_refusal.ensures)

pub returns : goal.returns
unfolding dng_refusal
returns c =
    let number = c.in_ok-strip_refusal.ensures ∙ rw (c.strip_start-start.ensures.0, area c.args.shape c.output_length-area.ensures.0) in
    let all = continued _ _ c.in_ok-tag_refusal.ensures (continued _ _ c.in_ok-room_refusal.ensures (number ∙ lone _)) in
    acceptance _ _ _ _ _ all refl (ap (λ (v : Values). answered (Ok v)) c.values_of.ensures) (filled-by _ _ _ _ _ _ _ c.strip_start-start.ensures.0 c.fill.ensures)
