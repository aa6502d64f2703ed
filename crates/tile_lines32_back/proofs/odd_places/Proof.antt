-- `tile_lines32_back::odd_places`: the odd places of row p, one by one.
use Rattle.std.specs.Prelude.{◌+◌, ◌-◌, ◌*◌}
use Rattle.tile_lines32_back.specs.Prelude.{refl, arith, rules, get_or, nan}
use Rattle.sequences.specs.TabLaws.{Filled, fill_start, fill-turn, fill_done}
use Rattle.tile_lines32_back.proofs.odd_places as of

abbrev invariant-loop-k : of.Tie.invariant-loop-k
invariant-loop-k h p o₀ k₀ o k = Filled (λ k. get_or h (4 * k + 2 + p) nan) 16 k o₀ o

abbrev decreases-loop-k : of.Tie.decreases-loop-k
decreases-loop-k h p o₀ k₀ o k = 16 - k

loop-again : of.Tie.Need-loop-k-preserved invariant-loop-k decreases-loop-k
loop-again c = fill-turn c.before.before.loop-k.invariant (omega arith) refl

returns : of.Tie.Need-returns invariant-loop-k decreases-loop-k
returns c = fill_done c.before.loop-k.invariant (omega arith)

pub odd_places_spec : {M : Type 1} → of.Statement.statement M
odd_places_spec = of.Tie.close (of.Tie.spec
    invariant-loop-k decreases-loop-k (λ c. fill_start refl)
    (λ c. search rules) (λ c. search rules) (λ c. search rules) (λ c. search rules) (λ c. search rules) (λ c. search rules)
    (λ c. search rules) (λ c. search rules) (λ c. search rules)
    loop-again returns)
