-- Each end of the tests is one of the texts that both programs print.
use Rattle.std.proofs.Common.{rules, sym, ap, ◌∙◌, ◌≡◌, ◌≤◌, ◌<◌, Err, arith, List, ℕ, length, take}
use lib.Seq.{length-take-le}
use Rattle.refusals.specs.Refused.{refusal_number}
use Rattle.refusals.specs.RefusedLaws.{some-number}
use Rattle.file_burst.specs.declared.head.Header.{Header}
use Rattle.file_burst.specs.Head.Head.{head_of}
use Rattle.report.specs.Inner.{room}
use Rattle.report.specs.declared.opening.Unread.TheVariants.{Refused}
use Rattle.report.proofs.Files.{Headed, headed, headed-few, refused-text, head-text, wide-text, high-text, opens}
use Rattle.report.proofs.opening.open_file.Goals as goal

-- the samples of the frames fit in those lent
fits : (file samples : List ℕ) {header : Header} → Headed file header → room 8 ≤ length samples → room header.shape.count ≤ length samples
fits file samples h long = omega (arith, headed-few h, long)

pub returns-in_err-head : goal.returns-in_err-head
returns-in_err-head c =
    let r : c.from_residual.result ≡ Err (Refused c.in_err-head.field-0.0) = search rules in
    rw r (head-text _ c.requires.0 c.in_err-head.ensures)

pub returns-in_err-check : goal.returns-in_err-check
returns-in_err-check c =
    let r : c.from_residual-in_err-check.result ≡ Err (Refused c.in_err-check.field-0.0) = search rules in
    let some = some-number c.in_err-check.field-0.0 in
    rw r (refused-text _ c.requires.0 c.in_err-check.ensures (λ z. absurd (omega (arith, z, some))))

pub returns-then-shape-ne-FRAME_SIDE : goal.returns-then-shape-ne-FRAME_SIDE
returns-then-shape-ne-FRAME_SIDE c = wide-text _ c.requires.0 (headed (sym c.in_ok-check.ensures) c.in_ok-head.ensures) c.if-shape-ne-FRAME_SIDE.true

pub returns-then-shape-ne-FRAME_SIDE-2 : goal.returns-then-shape-ne-FRAME_SIDE-2
returns-then-shape-ne-FRAME_SIDE-2 c = high-text _ c.requires.0 (headed (sym c.in_ok-check.ensures) c.in_ok-head.ensures) c.if-shape-ne-FRAME_SIDE.false c.if-shape-ne-FRAME_SIDE-2.true

pub overflow_mul-end : goal.overflow_mul-end
overflow_mul-end c = search (rules, headed-few (headed (sym c.in_ok-check.ensures) c.in_ok-head.ensures))

pub slice_bounds-read_file-end : goal.slice_bounds-read_file-end
slice_bounds-read_file-end c = fits _ _ (headed (sym c.in_ok-check.ensures) c.in_ok-head.ensures) c.requires.1

pub slice_bounds-read_file-end-2 : goal.slice_bounds-read_file-end-2
slice_bounds-read_file-end-2 c = sym (length-take-le _ _ (fits _ _ (headed (sym c.in_ok-check.ensures) c.in_ok-head.ensures) c.requires.1))

pub returns : goal.returns
returns c =
    let file = headed (sym c.in_ok-check.ensures) c.in_ok-head.ensures in
    let room_left = fits _ _ file c.requires.1 in
    let same = length-take-le (room c.in_ok-head.head.header.shape.count) c.args.samples.now room_left in
    opens _ c.requires.0 file c.if-shape-ne-FRAME_SIDE.false c.args.samples.now c.if-shape-ne-FRAME_SIDE-2.false room_left (omega (arith, same)) c.read_file.ensures
