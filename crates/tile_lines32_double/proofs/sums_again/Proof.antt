-- `tile_lines32_double::sums_again`: each number and the one half a line of sixteen further on.
use Rattle.std.specs.Prelude.{◌+◌, ◌-◌}
use Rattle.tile_lines32_double.specs.Prelude.{refl, ◌∙◌, arith, rules, get_or, nan, binary64, add}
use Rattle.sequences.specs.TabLaws.{Filled, fill_start, fill-turn, fill_done}
use Rattle.tile_lines32_double.proofs.LongFolding.{again-are}
use Rattle.tile_lines32_double.proofs.sums_again as of

abbrev invariant-loop-i : of.Tie.invariant-loop-i
invariant-loop-i s r₀ i₀ r i = Filled (λ i. add binary64 (get_or s i nan) (get_or s (i + 16) nan)) 16 i r₀ r

abbrev decreases-loop-i : of.Tie.decreases-loop-i
decreases-loop-i s r₀ i₀ r i = 16 - i

loop-again : of.Tie.Need-loop-i-preserved invariant-loop-i decreases-loop-i
loop-again c = fill-turn c.before.before.before.loop-i.invariant (omega arith) refl

returns : of.Tie.Need-returns invariant-loop-i decreases-loop-i
returns c z most e = fill_done c.before.loop-i.invariant (omega arith) ∙ again-are z most e

pub sums_again_spec : {M : Type 1} → of.Statement.statement M
sums_again_spec = of.Tie.close (of.Tie.spec
    invariant-loop-i decreases-loop-i (λ c. fill_start refl) (λ c. search rules) (λ c. search rules)
    (λ c. search rules) (λ c. search rules) (λ c. search rules) (λ c. search rules)
    (λ c. search rules) (λ c. search rules) (λ c. search rules) loop-again returns)
