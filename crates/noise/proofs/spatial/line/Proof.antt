-- The numbers are stored one after the other; a product is at most 181 times the scale's bound.
use Rattle.std.specs.Prelude.{◌*◌, ◌/◌, ◌-◌}
use Rattle.algebra.specs.Prelude.{refl, arith, rules, get_or}
use native.Mathlib.Nat.{mul-le-mul}
use Rattle.sequences.specs.TabLaws.{Filled, fill_start, fill-turn, fill_done}
use Rattle.noise.proofs.spatial.line as of

abbrev invariant-loop-v : of.Tie.invariant-loop-v
invariant-loop-v distances scale divisor r₀ v₀ r v = Filled (λ v. get_or distances v 0 * scale / divisor) 9 v r₀ r

abbrev decreases-loop-v : of.Tie.decreases-loop-v
decreases-loop-v distances scale divisor r₀ v₀ r v = 9 - v

mul-r-2 : of.Tie.Need-overflow_mul-r invariant-loop-v decreases-loop-v
mul-r-2 c =
    let l = c.before.before in
    let s = l.before in
    omega (arith, mul-le-mul (s.requires.distances_most l.loop-v.v) s.requires.scale-most)

loop-again : of.Tie.Need-loop-v-preserved invariant-loop-v decreases-loop-v
loop-again c = fill-turn c.before.before.loop-v.invariant (omega arith) refl

pub line_spec : {M : Type 1} → of.Statement.statement M
line_spec = of.Tie.close (of.Tie.spec
    invariant-loop-v decreases-loop-v (λ c. fill_start refl) (λ c. search rules) (λ c. search rules) mul-r-2 (λ c. search rules)
    (λ c. search rules) (λ c. search rules) (λ c. search rules) (λ c. search rules) loop-again (λ c. fill_done c.before.loop-v.invariant (omega arith)))
