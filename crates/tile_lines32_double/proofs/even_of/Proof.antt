-- `tile_lines32_double::even_of`: the places of a line of sixteen are stored by twos.
use Rattle.std.specs.Prelude.{◌-◌, ◌*◌, ◌+◌, ◌+ℤ◌, ◌-ℤ◌}
use Rattle.tile_lines32_double.specs.Prelude.{refl, ◌∙◌, arith, rules, side16, halfcomplex_of}
use Rattle.sequences.specs.TabLaws.{Filled, fill_start, fill_done}
use Rattle.tile_lines32_double.proofs.LongFolding.{by_twos, twos-turn, twos-are, again-most, less-most, again-even, again-odd}
use Rattle.tile_lines32_double.proofs.even_of as of

abbrev invariant-loop-k : of.Tie.invariant-loop-k
invariant-loop-k a b p e o r₀ k₀ r k = Filled (by_twos e o) 16 (2 * k) r₀ r

abbrev decreases-loop-k : of.Tie.decreases-loop-k
decreases-loop-k a b p e o r₀ k₀ r k = 8 - k

loop-again : of.Tie.Need-loop-k-preserved invariant-loop-k decreases-loop-k
loop-again c =
    let o = c.before.before in
    let e = o.before in
    twos-turn e.even_of-e.result o.odd_of-o.result c.before.loop-k.invariant c.loop-k-test.true

returns : of.Tie.Need-returns invariant-loop-k decreases-loop-k
returns c z w =
    let o = c.before.before in
    let e = o.before in
    let line = e.before.args.p in
    fill_done c.before.loop-k.invariant (omega arith)
    ∙ twos-are (halfcomplex_of side16 (λ n. z (2 * n + line)))
    (e.even_of-e.ensures (λ i. z i +ℤ z (i + 16)) (again-most z w.most) w.sums ∙ again-even z line)
    (o.odd_of-o.ensures (λ i. z i -ℤ z (i + 16)) (less-most z w.most) w.differences ∙ again-odd z line)

pub even_of_spec : {M : Type 1} → of.Statement.statement M
even_of_spec = of.Tie.close (of.Tie.spec
    invariant-loop-k decreases-loop-k (λ c κs. search rules) (λ c κs. search rules) (λ c. fill_start refl)
    (λ c. search rules) (λ c. search rules) (λ c. search rules) (λ c. search rules) (λ c. search rules)
    (λ c. search rules) (λ c. search rules) (λ c. search rules) (λ c. search rules) (λ c. search rules)
    (λ c. search rules) (λ c. search rules) (λ c. search rules) loop-again returns)
