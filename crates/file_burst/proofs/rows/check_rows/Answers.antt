-- A row's refusal ends the rows.
use Rattle.std.proofs.Common.{rules, ◌≡◌, ◌+◌, ◌-◌, arith, ap, ◌∙◌, Err}
use Rattle.file_burst.specs.Prelude.{drop, Part, ◌then◌}
use Rattle.file_burst.specs.Rows.{row_lines}
use Rattle.file_burst.specs.Passage.{briefly}
use Rattle.file_burst.proofs.Passages.{rows_step, rows_none}
use Rattle.file_burst.proofs.rows.check_rows.Goals as goal

pub returns-in_err-next : goal.returns-in_err-next
returns-in_err-next c =
    let left = c.args.count - c.loop.counter in
    let r : c.from_residual.result ≡ Err c.in_err-next.field-0.0 = search rules in
    rw r
    (ap (λ (p : Part Unit). p then (λ u rest. briefly (row_lines (left - 1) c.args.width rest))) c.in_err-next.ensures
    ∙ rows_step left c.args.width (drop c.loop.next c.args.file.now) (omega arith) ∙ c.loop.invariant)

pub loop-preserved : goal.loop-preserved
loop-preserved c =
    let left = c.args.count - c.loop.counter in
    let next : c.args.count - (c.loop.counter + 1) ≡ left - 1 = omega arith in
    rw next
    (ap (λ (p : Part Unit). p then (λ u rest. briefly (row_lines (left - 1) c.args.width rest))) c.in_ok-next.ensures
    ∙ rows_step left c.args.width (drop c.loop.next c.args.file.now) (omega arith) ∙ c.loop.invariant)

pub returns : goal.returns
returns c = rows_none (c.args.count - c.loop.counter) c.args.width (drop c.loop.next c.args.file.now) (omega arith) ∙ c.loop.invariant
