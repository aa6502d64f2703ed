-- The rows' refusal, or 15 where bytes follow them.
use Rattle.std.proofs.Common.{rules, arith, ap, ◌∙◌, ◌≡◌, ◌*◌, ◌≤◌, Err, mul-le-mul}
use Rattle.file_burst.specs.Prelude.{drop, Part, number_of}
use Rattle.file_burst.specs.Rows.{row_lines, ended, frames_of}
use Rattle.file_burst.proofs.Passages.{ended-briefly, file-end}
use Rattle.file_burst.proofs.rows.check_frames.Goals as goal

pub overflow_mul-shape : goal.overflow_mul-shape
overflow_mul-shape c =
    let shape = c.args.shape in
    let most : shape.count * shape.height ≤ 32768 = mul-le-mul {n₁ = shape.count} {m₁ = shape.height} {n₂ = 8} {m₂ = 4096} c.requires.few c.requires.high.most in
    omega (arith, most)

pub returns-in_err-next : goal.returns-in_err-next
unfolding frames_of
returns-in_err-next c =
    let r : c.from_residual.result ≡ Err c.in_err-next.field-0.0 = search rules in
    rw r (ap (λ (p : Part Unit). number_of (ended p)) c.in_err-next.ensures ∙ ended-briefly (row_lines (c.args.shape.count * c.args.shape.height) c.args.shape.width (drop c.args.at c.args.file.now)))

pub returns : goal.returns
unfolding frames_of
returns c =
    c.refuse.ensures ∙ file-end tt _ _ ∙ ap (λ (p : Part Unit). number_of (ended p)) c.in_ok-next.ensures
    ∙ ended-briefly (row_lines (c.args.shape.count * c.args.shape.height) c.args.shape.width (drop c.args.at c.args.file.now))
