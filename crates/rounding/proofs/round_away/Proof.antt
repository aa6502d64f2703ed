-- `rounding::round_away`: the absolute value rounded, with the sign put back.
use Rattle.std.specs.Prelude.{◌≡◌, ◌^◌, ◌<◌}
use Rattle.algebra.specs.Prelude.{◌∙◌, rules, w64, to_z, of_z, to_z-of_z}
use Rattle.rounding.proofs.Sign.{half-fits, away-below, away-from}
use Rattle.rounding.proofs.round_away as of

halves-up-requires : of.Tie.Need-halves_up-n-requires
halves-up-requires c κs =
    let s = c.before in
    record {
      divisor_some = s.requires.divisor_some;
      divisor_below = s.requires.divisor_below;
      dividend_below = rw (c.magnitude.ensures, to_z-of_z s.ranges.z) s.requires.dividend_below;
    }

-- the quotient of the absolute value fits with either sign
fits : (b : of.Tie.After-halves_up-n) → b.halves_up-n.result < 2 ^ 63
fits b =
    let s = b.before.before in
    half-fits s.args.m _ s.ranges.z b.before.magnitude.ensures b.halves_up-n.ensures.1 s.requires.dividend_below

returns : of.Tie.Need-returns-then-z-lt0
returns c =
    let b = c.before.before in
    let s = b.before.before in
    let e : to_z w64 (of_z w64 c.negated.result) ≡ c.negated.result = search rules in
    e ∙ c.negated.ensures
    ∙ away-below s.args.m _ s.ranges.z b.before.magnitude.ensures c.before.if-z-lt0.true b.halves_up-n.ensures.0

returns-2 : of.Tie.Need-returns
returns-2 c =
    let b = c.before.before in
    let s = b.before.before in
    let e : to_z w64 (of_z w64 c.signed.result) ≡ c.signed.result = search rules in
    e ∙ c.signed.ensures
    ∙ away-from s.args.m _ s.ranges.z b.before.magnitude.ensures c.before.if-z-lt0.false b.halves_up-n.ensures.0

pub round_away_spec : {M : Type 1} → of.Statement.statement M
round_away_spec = of.Tie.close (of.Tie.spec
    (λ c κs. rw (to_z-of_z c.ranges.z) c.requires.dividend_below) halves-up-requires (λ c κs. fits c.before) returns
    (λ c κs. fits c.before) returns-2)
