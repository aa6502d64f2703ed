-- Values that are found have an LF behind them; where none are found, the search for an LF decides between 15 and 14.
use Rattle.std.proofs.Common.{sym, ◌∙◌}
use Rattle.file_burst.proofs.lines.Values.{line-found}
use Rattle.file_burst.proofs.lines.lines.check_line.Goals as goal

pub returns-in-Ok : goal.returns-in-Ok
returns-in-Ok c = line-found _ _ _ _ _ c.in-Ok.ensures

pub returns-then-has_lf : goal.returns-then-has_lf
returns-then-has_lf c = rw (sym c.has_lf.ensures ∙ c.if-has_lf.true) c.in-Err.ensures

pub returns-else-has_lf : goal.returns-else-has_lf
returns-else-has_lf c = rw (sym c.has_lf.ensures ∙ c.if-has_lf.false)
