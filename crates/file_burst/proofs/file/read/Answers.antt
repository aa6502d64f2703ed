-- Each part refuses or lets the next one decide; the samples are stored once all of them are accepted.
use Rattle.std.proofs.Common.{rules, refl, sym, ap, ◌∙◌, ◌≡◌, Err, eqb-true}
use Rattle.std.proofs.lemmas.Bool.{not-false}
use Rattle.file_burst.specs.Prelude.{ℕ, length, drop, length_refusal, above, next_values}
use Rattle.refusals.specs.Numbers as no
use Rattle.refusals.specs.TestLaws.{refuse-not}
use Rattle.file_burst.proofs.Bodies.{not-zero, head-allowed, head-packed, frames-next, head-refuses, length-refuses, frames-refuse, frames-accept}
use Rattle.file_burst.proofs.file.Stored.{refusal, acceptance}
use Rattle.file_burst.proofs.file.read.Goals as goal

pub returns-in_err-head : goal.returns-in_err-head
returns-in_err-head c =
    let r : c.from_residual.result ≡ Err c.in_err-head.field-0.0 = search rules in
    rw r (refusal _ _ (head-refuses _ _ c.in_err-head.ensures))

pub sample_length-requires : goal.sample_length-requires
sample_length-requires c = head-allowed _ _ _ c.in_ok-head.ensures

pub returns-in_err-length_refusal : goal.returns-in_err-length_refusal
returns-in_err-length_refusal c =
    let r : c.from_residual-in_err-length_refusal.result ≡ Err c.in_err-length_refusal.field-0.0 = search rules in
    let number = c.in_err-length_refusal.ensures ∙ ap (λ (k : ℕ). length_refusal 4 k (length c.args.samples.now)) c.sample_length.ensures.0 in
    rw r (refusal _ _ (length-refuses _ _ c.in_ok-head.ensures number (not-zero c.in_err-length_refusal.field-0.0)))

pub check_frames-requires : goal.check_frames-requires
check_frames-requires c = head-allowed _ _ _ c.in_ok-head.ensures

pub returns-in_err-check_frames : goal.returns-in_err-check_frames
returns-in_err-check_frames c =
    let r : c.from_residual-in_err-check_frames.result ≡ Err c.in_err-check_frames.field-0.0 = search rules in
    let number = c.in_ok-length_refusal.ensures ∙ ap (λ (k : ℕ). length_refusal 4 k (length c.args.samples.now)) c.sample_length.ensures.0 in
    rw r (refusal _ _ (frames-refuse _ _ c.in_ok-head.ensures number refl c.in_err-check_frames.ensures (not-zero c.in_err-check_frames.field-0.0)))

-- the lent samples are as many as the file's, and none is above 4095
pub fill-requires : goal.fill-requires
unfolding length_refusal
fill-requires c =
    let head = c.in_ok-head.head in
    let number = c.in_ok-length_refusal.ensures ∙ ap (λ (k : ℕ). length_refusal 4 k (length c.args.samples.now)) c.sample_length.ensures.0 in
    let right = eqb-true _ _ (not-false _ (refuse-not no.wrong_sample_length _ tt (sym number))) in
    let rest = drop head.next c.args.file.now in
    ap (λ (n : ℕ). above 4095 (next_values n rest)) right
    ∙ (frames-next head.header.shape (head-packed _ _ _ c.in_ok-head.ensures) rest (sym c.in_ok-check_frames.ensures)).1

pub returns : goal.returns
unfolding length_refusal
returns c =
    let rest = drop c.in_ok-head.head.next c.args.file.now in
    let number = c.in_ok-length_refusal.ensures ∙ ap (λ (k : ℕ). length_refusal 4 k (length c.args.samples.now)) c.sample_length.ensures.0 in
    let right = eqb-true _ _ (not-false _ (refuse-not no.wrong_sample_length _ tt (sym number))) in
    acceptance _ _ (frames-accept _ _ c.in_ok-head.ensures number refl c.in_ok-check_frames.ensures refl) (c.fill.ensures ∙ ap (λ (n : ℕ). next_values n rest) right)
