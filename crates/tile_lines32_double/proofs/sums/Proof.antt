-- `tile_lines32_double::sums`: each number and the one half a line further on.
use Rattle.std.specs.Prelude.{◌-◌}
use Rattle.tile_lines32_double.specs.Prelude.{refl, arith, rules, binary64, of_int}
use Rattle.sequences.specs.TabLaws.{Filled, fill_start, fill-turn, fill_done}
use Rattle.tile_lines32_double.proofs.LongFolding.{sums_of, pair-sum}
use Rattle.tile_lines32_double.proofs.sums as of

abbrev invariant-loop-i : of.Tie.invariant-loop-i
invariant-loop-i x r₀ i₀ r i = Filled (λ i. of_int binary64 (sums_of x i)) 32 i r₀ r

abbrev decreases-loop-i : of.Tie.decreases-loop-i
decreases-loop-i x r₀ i₀ r i = 32 - i

loop-again : of.Tie.Need-loop-i-preserved invariant-loop-i decreases-loop-i
loop-again c =
    let l = c.before.before.before.before.before in
    fill-turn l.loop-i.invariant (omega arith) (pair-sum l.before.requires l.loop-i.i)

returns : of.Tie.Need-returns invariant-loop-i decreases-loop-i
returns c = fill_done c.before.loop-i.invariant (omega arith)

pub sums_spec : {M : Type 1} → of.Statement.statement M
sums_spec = of.Tie.close (of.Tie.spec
    invariant-loop-i decreases-loop-i (λ c. fill_start refl) (λ c. search rules) (λ c. search rules)
    (λ c. search rules) (λ c. search rules) (λ c. search rules) (λ c. search rules)
    (λ c. search rules) (λ c. search rules) (λ c. search rules) (λ c. search rules)
    (λ c. search rules) loop-again returns)
