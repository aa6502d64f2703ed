-- The sum so far is that of the samples passed. A sample is below 65536, so each term is at most 15.
use Rattle.std.specs.Prelude.{◌+◌, ◌-◌, ◌/◌}
use Rattle.algebra.specs.Prelude.{refl, arith, rules, get_or}
use Rattle.sequences.specs.Sum.{Summed, sum-start, sum-turn, sum_done}
use Rattle.admit_value.specs.Excess.{excess}
use Rattle.admit_value.proofs.excess as of

abbrev invariant-loop-k : of.Tie.invariant-loop-k
invariant-loop-k samples at sum₀ k₀ sum k = Summed (λ j. get_or samples (at + j) 0 / 4096) 15 64 k sum

abbrev decreases-loop-k : of.Tie.decreases-loop-k
decreases-loop-k samples at sum₀ k₀ sum k = 64 - k

add-sum-2 : of.Tie.Need-overflow_add-sum-in-loop-k invariant-loop-k decreases-loop-k
add-sum-2 c = omega (arith, c.shared_slice_known-1.given (c.before.before.before.args.at + c.before.before.loop-k.k))

loop-again : of.Tie.Need-loop-k-preserved invariant-loop-k decreases-loop-k
loop-again c = sum-turn c.before.before.loop-k.invariant (omega arith) refl (omega (arith, c.shared_slice_known-1.given (c.before.before.before.args.at + c.before.before.loop-k.k)))

returns : of.Tie.Need-returns invariant-loop-k decreases-loop-k
unfolding excess
returns c = sum_done c.before.loop-k.invariant (omega arith)

pub excess_spec : {M : Type 1} → of.Statement.statement M
excess_spec = of.Tie.close (of.Tie.spec
    invariant-loop-k decreases-loop-k (λ c. sum-start) (λ c. search rules) (λ c. search rules) (λ c. search rules)
    add-sum-2 (λ c. search rules) (λ c. search rules) loop-again returns)
