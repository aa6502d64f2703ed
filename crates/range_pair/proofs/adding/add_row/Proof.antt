-- The sums are stored one after the other.
use Rattle.std.specs.Prelude.{◌-◌, ◌+ℤ◌}
use Rattle.range_pair.specs.Prelude.{refl, arith, rules, get_or, pos}
use Rattle.sequences.specs.TabLaws.{Filled, fill_start, fill_done}
use Rattle.tile_spectrum.specs.Lines.Held.{line_at}
use Rattle.tile_spectrum.specs.AddingLaws.{adding-fits, adding-turn}
use Rattle.range_pair.proofs.adding.add_row as of

abbrev invariant-loop-l : of.Tie.invariant-loop-l
invariant-loop-l p sum₀ l₀ sum l = Filled (λ l. get_or sum₀ l (pos 0) +ℤ get_or p l (pos 0)) 32 l sum₀ sum

abbrev decreases-loop-l : of.Tie.decreases-loop-l
decreases-loop-l p sum₀ l₀ sum l = 32 - l

add-sum : of.Tie.Need-overflow_add-sum invariant-loop-l decreases-loop-l
add-sum c =
    let l = c in
    let s = l in
    adding-fits l.loop-l.invariant (omega arith) s.requires.sums.most (line_at s.requires.part l.loop-l.l) tt tt

loop-again : of.Tie.Need-loop-l-preserved invariant-loop-l decreases-loop-l
loop-again c =
    let l = c in
    let s = l in
    adding-turn l.loop-l.invariant (omega arith) s.requires.sums.most (line_at s.requires.part l.loop-l.l) tt tt refl

pub add_row_spec : {M : Type 1} → of.Statement.statement M
add_row_spec = of.Tie.close (of.Tie.spec
    invariant-loop-l decreases-loop-l (λ c. fill_start c.requires.sums.long) (λ c. search rules) (λ c. search rules) (λ c. search rules)
    (λ c. search rules) add-sum (λ c. search rules) (λ c. search rules) (λ c. search rules) (λ c. search rules)
    loop-again (λ c. fill_done c.loop-l.invariant (omega arith)))
