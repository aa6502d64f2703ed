-- Each test ends the chain or lets the next one decide.
use Rattle.std.proofs.Common.{rules, ◌≡◌, Err}
use Rattle.file_burst.proofs.head.Heads.{first-refuses, line-refuses, values-refuse, head-found}
use Rattle.file_burst.proofs.head.read_head.Goals as goal

pub returns-in_err-first_line_refusal : goal.returns-in_err-first_line_refusal
returns-in_err-first_line_refusal c =
    let r : c.from_residual.result ≡ Err c.in_err-first_line_refusal.field-0.0 = search rules in
    rw r (first-refuses _ c.in_err-first_line_refusal.field-0.0 c.in_err-first_line_refusal.ensures)

pub returns-in_err-line : goal.returns-in_err-line
returns-in_err-line c =
    let r : c.from_residual-in_err-line.result ≡ Err c.in_err-line.field-0.0 = search rules in
    rw r (line-refuses _ c.in_ok-first_line_refusal.ensures _ c.in_err-line.ensures)

pub returns-in_err-header_refusal : goal.returns-in_err-header_refusal
returns-in_err-header_refusal c =
    let r : c.from_residual-in_err-header_refusal.result ≡ Err c.in_err-header_refusal.field-0.0 = search rules in
    rw r
    (values-refuse _ c.in_ok-first_line_refusal.ensures _ _ c.in_ok-line.ensures _ c.header_at-header.ensures c.in_err-header_refusal.field-0.0
    c.in_err-header_refusal.ensures)

pub returns : goal.returns
returns c = head-found _ c.in_ok-first_line_refusal.ensures _ _ c.in_ok-line.ensures _ c.header_at-header.ensures c.in_ok-header_refusal.ensures
