-- A row of weights, filled from the front, two a turn.
use Rattle.std.specs.Prelude.{◌≡◌, ◌-◌, ◌*◌, ◌≤◌}
use Rattle.algebra.specs.Prelude.{refl, subst, ◌∙◌, arith, rules, w64, to_z, of_z}
use Rattle.sequences.specs.TabLaws.{Filled, fill_start}
use Rattle.merge_gather.specs.Gather.{weight_of}
use Rattle.merge_gather.proofs.Weighing.{weights-turn, weights-done, side-most}
use Rattle.merge_gather.proofs.weights as of

abbrev invariant-loop-j : of.Tie.invariant-loop-j
invariant-loop-j window side i row₀ j₀ row j = (Filled (weight_of side i) 64 (2 * j) row₀ row) × (j ≤ side)

abbrev decreases-loop-j : of.Tie.decreases-loop-j
decreases-loop-j window side i row₀ j₀ row j = side - j

loop-again : of.Tie.Need-loop-j-preserved invariant-loop-j decreases-loop-j
loop-again c =
    let w = c.weight-w in
    let l = c in
    let s = l in
    let e : to_z w64 (of_z w64 w.result) ≡ w.result = search rules in
    (weights-turn s.args.side s.args.i l.loop-j.j l.loop-j.invariant.0 (omega (arith, side-most s.requires.sided)) (e ∙ w.ensures.0), omega arith)

returns : of.Tie.Need-returns invariant-loop-j decreases-loop-j
returns c =
    let l = c in
    let s = l in
    let all : l.loop-j.j ≡ s.args.side = omega (arith, l.loop-j.invariant.1) in
    weights-done s.args.side s.args.i (subst (λ n. Filled (weight_of s.args.side s.args.i) 64 (2 * n) _ l.loop-j.row) all l.loop-j.invariant.0)

pub weights_spec : {M : Type 1} → of.Statement.statement M
weights_spec = of.Tie.close (of.Tie.spec
    invariant-loop-j decreases-loop-j (λ c. (fill_start refl, omega arith)) (λ c κs. search rules) (λ c. search rules)
    (λ c. search rules) (λ c. omega (arith, side-most c.requires.sided)) (λ c. search rules) (λ c. search rules)
    (λ c. omega (arith, side-most c.requires.sided)) (λ c. omega (arith, side-most c.requires.sided)) (λ c. search rules) (λ c. search rules) loop-again
    returns)
