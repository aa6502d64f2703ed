-- Each branch is a number of digits.
use Rattle.algebra.specs.Prelude.{sym, ap, arith, length}
use Rattle.printing.specs.DecimalLaws.{decimal-small}
use Rattle.file_pgm.specs.Header.DigitLaws.{two, three, four}
use Rattle.file_pgm.proofs.header.digits.digits as of

returns : of.Tie.Need-returns-then-n-lt10
returns c = (sym (ap length (decimal-small c.if-n-lt10.true)), omega arith)

returns-2 : of.Tie.Need-returns-then-n-lt100
returns-2 c = (sym (ap length (two _ c.if-n-lt10.false c.if-n-lt100.true)), omega arith)

returns-3 : of.Tie.Need-returns-then-n-lt1000
returns-3 c = (sym (ap length (three _ c.if-n-lt100.false c.if-n-lt1000.true)), omega arith)

returns-4 : of.Tie.Need-returns
returns-4 c = (sym (ap length (four _ c.if-n-lt1000.false (omega arith))), omega arith)

pub digits_spec : {M : Type 1} → of.Statement.statement M
digits_spec = of.Tie.close (of.Tie.spec returns returns-2 returns-3 returns-4)
