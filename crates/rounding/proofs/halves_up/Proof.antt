-- `rounding::halves_up`: the law of `Halves`.
use Rattle.algebra.specs.Prelude.{arith, rules}
use Rattle.rounding.proofs.Halves.{up}
use Rattle.rounding.proofs.halves_up as of

returns : of.Tie.Need-returns
returns c =
    let s = c.before in
    rw c.long.ensures (up s.args.a s.args.m s.requires.divisor_some)

pub halves_up_spec : {M : Type 1} → of.Statement.statement M
halves_up_spec = of.Tie.close (of.Tie.spec
    (λ c. omega (arith, c.requires.divisor_below, c.requires.dividend_below)) (λ c κs. search rules) (λ c. search rules) returns)
