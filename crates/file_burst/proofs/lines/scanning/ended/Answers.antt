-- Each byte is a case of the definition.
use Rattle.std.proofs.Common.{arith, rules, sym, ap, ◌∙◌}
use Rattle.file_burst.specs.Lines.Line.{more}
use Rattle.file_burst.proofs.lines.Bytes as bytes
use Rattle.file_burst.proofs.lines.scanning.ended.Goals as goal

pub returns-then-count-eq0 : goal.returns-then-count-eq0
returns-then-count-eq0 c = sym (bytes.after_none _ _ _ _ c.if-count-eq0.true)

pub returns-in-10 : goal.returns-in-10
returns-in-10 c = sym (bytes.after_last _ _ _ _ c.if-count-eq0.false c.in-10.is)

pub returns-in-32 : goal.returns-in-32
returns-in-32 c = ap (more c.args.value) c.past_spaces.ensures ∙ sym (bytes.after-space _ _ _ _ c.if-count-eq0.false (λ e. absurd (omega (arith, e, c.in-32.is))) c.in-32.is)

pub returns-in_default : goal.returns-in_default
returns-in_default c = sym (bytes.after-other _ _ _ _ c.if-count-eq0.false (λ e. search rules) (λ e. search rules))
