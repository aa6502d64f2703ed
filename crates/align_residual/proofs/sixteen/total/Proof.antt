-- One sum over sixteen times four numbers of 16 bits.
use Rattle.sequences.specs.Sum.{Summed, sum-start, sum-turn, sum_done}
use Rattle.std.specs.Prelude.{◌+◌, ◌-◌}
use Rattle.algebra.specs.Prelude.{ap₂, arith, rules, get_or}
use Rattle.align_residual.proofs.sixteen.total as of

abbrev invariant-loop-j : of.Tie.invariant-loop-j
invariant-loop-j first second third fourth sum₀ j₀ sum j = Summed (λ k. get_or first k 0 + get_or second k 0 + get_or third k 0 + get_or fourth k 0) 262140 16 j sum

abbrev decreases-loop-j : of.Tie.decreases-loop-j
decreases-loop-j first second third fourth sum₀ j₀ sum j = 16 - j

loop-again : of.Tie.Need-loop-j-preserved invariant-loop-j decreases-loop-j
loop-again c = let d = c.before in let e = d.before in let f = e.before in sum-turn f.before.before.loop-j.invariant (omega arith) (ap₂ ◌+◌ (ap₂ ◌+◌ (ap₂ ◌+◌ f.wide.ensures.0 e.wide-in-loop-j.ensures.0) d.wide-in-loop-j-2.ensures.0) c.wide-in-loop-j-3.ensures.0) (omega arith)

returns : of.Tie.Need-returns invariant-loop-j decreases-loop-j
returns c = (sum_done c.before.loop-j.invariant (omega arith), omega arith)

pub total_spec : {M : Type 1} → of.Statement.statement M
total_spec = of.Tie.close (of.Tie.spec
    invariant-loop-j decreases-loop-j (λ c. sum-start) (λ c. search rules) (λ c. search rules) (λ c κs. search rules)
    (λ c. search rules) (λ c. search rules) (λ c κs. search rules) (λ c. search rules)
    (λ c. search rules) (λ c. search rules) (λ c κs. search rules) (λ c. search rules)
    (λ c. search rules) (λ c. search rules) (λ c κs. search rules) (λ c. search rules)
    (λ c. search rules) (λ c. search rules) (λ c. search rules) loop-again returns)
