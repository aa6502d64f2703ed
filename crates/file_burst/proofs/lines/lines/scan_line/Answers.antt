-- Each item decides, or leaves it to the values after it.
use Rattle.std.proofs.Common.{Some, ◌≡◌, ◌+◌, ◌-◌, arith, sym, ap, ◌∙◌}
use Rattle.file_burst.specs.Lines.Prelude.{Bool, drop}
use Rattle.file_burst.specs.Lines.Line.{Item, after_item, values_of}
use Rattle.file_burst.specs.Lines.Scan.{item_in, line_in, ended_line, judged}
use Rattle.file_burst.specs.declared.lines.Scan.{Scan}
use Rattle.file_burst.proofs.lines.Values.{values-step, values-none, judged-end, judged-more}
use Rattle.file_burst.proofs.lines.lines.scan_line.Goals as goal

pub returns-in-None : goal.returns-in-None
returns-in-None c =
    let left = c.args.count - c.loop-k.k in
    ap (λ (item : Item). judged c.loop-k.over c.args.bound (after_item (left - 1) (λ t. values_of (left - 1) t) item)) c.in-None.ensures
    ∙ ap (judged c.loop-k.over c.args.bound) (sym (values-step left (drop c.loop-k.i c.args.file.now) (omega arith))) ∙ c.loop-k.invariant

pub returns-in-Some-Last : goal.returns-in-Some-Last
returns-in-Some-Last c =
    let left = c.args.count - c.loop-k.k in
    let found = c.in-Some-Last.found in
    let file = c.args.file.now in
    ap (line_in file) (c.end_line.ensures ∙ ap (ended_line (left - 1) found.next) c.or_above.ensures)
    ∙ judged-end (left - 1) found.next c.loop-k.over c.args.bound found.value file (λ t. values_of (left - 1) t)
    ∙ ap (λ (item : Item). judged c.loop-k.over c.args.bound (after_item (left - 1) (λ t. values_of (left - 1) t) item)) (ap (λ (s : Scan). item_in file (Some s)) (sym c.in-Some-Last.field-0-is) ∙ c.in-Some-Last.ensures)
    ∙ ap (judged c.loop-k.over c.args.bound) (sym (values-step left (drop c.loop-k.i file) (omega arith))) ∙ c.loop-k.invariant

pub loop-k-preserved : goal.loop-k-preserved
loop-k-preserved c =
    let left = c.args.count - c.loop-k.k in
    let found = c.in-Some-More.found in
    let file = c.args.file.now in
    let next : c.args.count - (c.loop-k.k + 1) ≡ left - 1 = omega arith in
    rw next
    (ap (λ (o : Bool). judged o c.args.bound (values_of (left - 1) (drop found.next file))) c.or_above-over.ensures
    ∙ judged-more c.loop-k.over c.args.bound found.value (values_of (left - 1) (drop found.next file))
    ∙ ap (λ (item : Item). judged c.loop-k.over c.args.bound (after_item (left - 1) (λ t. values_of (left - 1) t) item)) (ap (λ (s : Scan). item_in file (Some s)) (sym c.in-Some-More.field-0-is) ∙ c.in-Some-More.ensures)
    ∙ ap (judged c.loop-k.over c.args.bound) (sym (values-step left (drop c.loop-k.i file) (omega arith))) ∙ c.loop-k.invariant)

pub returns : goal.returns
returns c = ap (judged c.loop-k.over c.args.bound) (sym (values-none (c.args.count - c.loop-k.k) (drop c.loop-k.i c.args.file.now) (omega arith))) ∙ c.loop-k.invariant
