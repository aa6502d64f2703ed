-- `rounding::round_away_32`: the steps of `Shifts`, with h = 2^31.
use Rattle.algebra.specs.Prelude.{lit<}
use Rattle.rounding.proofs.Shifts.{raised-fits, moved-fits, shifted}
use Rattle.rounding.proofs.round_away_32 as of

pub round_away_32_spec : {M : Type 1} → of.Statement.statement M
round_away_32_spec = of.Tie.close (of.Tie.spec
    (λ c. raised-fits c.args.z c.ranges.z c.requires 2147483648 tt)
    (λ c. moved-fits c.args.z c.ranges.z c.requires 2147483648 tt)
    (λ c. shifted c.args.z c.ranges.z c.requires 2147483648 (lit< tt) tt))
