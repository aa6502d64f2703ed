-- The digits of n / 10, put by the call, and then n % 10 are those of n.
use Rattle.std.specs.Prelude.{◌/◌}
use Rattle.printing.specs.Prelude.{arith}
use Rattle.printing.specs.DecimalLaws.{decimal-small, decimal-more, decimal-length}
use Rattle.printing.specs.PutLaws.{printed-then}
use Rattle.printing.proofs.pieces.+put_number.Goals as goal

pub returns-then-n-lt10 : goal.returns-then-n-lt10
returns-then-n-lt10 t c = (rw (decimal-small {n = c.args.n} (omega arith)) c.put_byte.ensures, omega arith)

pub put_byte-requires-2 : goal.put_byte-requires-2
put_byte-requires-2 t c = omega (arith, decimal-length 18 (c.args.n / 10) (omega arith))

pub returns : goal.returns
returns t c = (
  rw (decimal-more {n = c.args.n} (omega arith)) (printed-then (omega arith) c.put_number-next.ensures.0 c.put_byte-2.ensures),
  omega (arith, decimal-length 18 (c.args.n / 10) (omega arith)),
)
