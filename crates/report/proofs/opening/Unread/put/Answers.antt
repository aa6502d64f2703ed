-- There is room for a refusal's line.
use Rattle.std.proofs.Common.{arith, rules, ap}
use Rattle.printing.specs.LineLaws.{refusal-length}
use Rattle.report.specs.Prelude.{length}
use Rattle.report.proofs.opening.Unread.put.Goals as goal

pub put_refusal-requires : goal.put_refusal-requires
put_refusal-requires c = (search rules, omega (arith, ap length c.requires, refusal-length c.number.result (omega arith)))
