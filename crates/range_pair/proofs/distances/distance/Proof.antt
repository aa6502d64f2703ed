-- At most four times a number of at most 2·apart_most.
use Rattle.std.specs.Prelude.{◌*◌, ◌≤◌}
use Rattle.algebra.specs.Prelude.{sym, ap, ap₂, subst, ◌∙◌, arith, rules, nat_abs, w64}
use native.Mathlib.Nat.{mul-le-mul}
use Rattle.tile_spectrum.specs.Lines.Held.{number_is, number-most}
use Rattle.range_pair.specs.Factors.{apart_most}
use Rattle.range_pair.proofs.Tables.{times-most}
use Rattle.range_pair.proofs.distances.distance as of

magnitude-requires : of.Tie.Need-magnitude-requires
magnitude-requires c κs = omega (arith, (number-most w64 c.requires tt).most)

mul-result : of.Tie.Need-overflow_mul-result
mul-result c =
    let t = c in
    let a : t.times.result ≤ 4 = subst (λ n. n ≤ 4) (sym t.times.ensures) (times-most _ _) in
    let b : c.magnitude.result ≤ 2 * apart_most = subst (λ n. n ≤ 2 * apart_most) (sym c.magnitude.ensures) (number-most w64 t.requires tt).most in
    omega (arith, mul-le-mul a b)

returns : of.Tie.Need-returns
returns c =
    let t = c in
    ap₂ ◌*◌ t.times.ensures (c.magnitude.ensures ∙ ap nat_abs (number_is w64 t.requires tt))

pub distance_spec : {M : Type 1} → of.Statement.statement M
distance_spec = of.Tie.close (of.Tie.spec (λ c κs. search rules) magnitude-requires mul-result returns)
