-- `rounding::round_away_31`: the steps of `Shifts`, with h = 2^30.
use Rattle.algebra.specs.Prelude.{lit<}
use Rattle.rounding.proofs.Shifts.{raised-fits, moved-fits, shifted}
use Rattle.rounding.proofs.round_away_31 as of

pub round_away_31_spec : {M : Type 1} → of.Statement.statement M
round_away_31_spec = of.Tie.close (of.Tie.spec
    (λ c. raised-fits c.args.z c.ranges.z c.requires 1073741824 tt)
    (λ c. moved-fits c.args.z c.ranges.z c.requires 1073741824 tt)
    (λ c. shifted c.args.z c.ranges.z c.requires 1073741824 (lit< tt) tt))
