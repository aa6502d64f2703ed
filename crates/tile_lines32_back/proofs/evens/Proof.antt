-- `tile_lines32_back::evens`: the even places of both rows are stored by twos.
use Rattle.std.specs.Prelude.{◌-◌, ◌*◌}
use Rattle.algebra.specs.Prelude.{refl, ◌∙◌, arith, rules}
use Rattle.sequences.specs.TabLaws.{Filled, fill_start, fill_done}
use Rattle.tile_lines32_back.proofs.BothHalves.{first_two, twos-turn, first-at, second_at, first-two}
use Rattle.tile_lines32_back.proofs.evens as of

abbrev invariant-loop-k : of.Tie.invariant-loop-k
invariant-loop-k h r₀ k₀ r k = Filled (first_two h) 32 (2 * k) r₀ r

abbrev decreases-loop-k : of.Tie.decreases-loop-k
decreases-loop-k h r₀ k₀ r k = 16 - k

loop-again : of.Tie.Need-loop-k-preserved invariant-loop-k decreases-loop-k
loop-again c =
    let t = c.before.before in
    let l = t.before in
    let h = l.before.args.h.now in
    twos-turn l.loop-k.invariant t.loop-k-test.true (first-at h l.loop-k.k) (second_at h l.loop-k.k)

returns : of.Tie.Need-returns invariant-loop-k decreases-loop-k
returns c z most e = fill_done c.before.loop-k.invariant (omega arith) ∙ first-two z e

pub evens_spec : {M : Type 1} → of.Statement.statement M
evens_spec = of.Tie.close (of.Tie.spec
    invariant-loop-k decreases-loop-k (λ c. fill_start refl)
    (λ c. search rules) (λ c. search rules) (λ c. search rules) (λ c. search rules) (λ c. search rules) (λ c. search rules)
    (λ c. search rules) (λ c. search rules) (λ c. search rules) (λ c. search rules) (λ c. search rules) (λ c. search rules)
    (λ c. search rules) (λ c. search rules) (λ c. search rules) (λ c. search rules)
    loop-again returns)
