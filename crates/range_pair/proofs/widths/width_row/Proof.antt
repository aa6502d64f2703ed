-- The widths are stored one after the other.
use Rattle.std.specs.Prelude.{◌-◌}
use Rattle.algebra.specs.Prelude.{refl, arith, rules}
use Rattle.sequences.specs.TabLaws.{Filled, fill_start, fill-turn, fill_done}
use Rattle.range_pair.specs.Factors.{pair_width}
use Rattle.range_pair.proofs.widths.width_row as of

abbrev invariant-loop-l : of.Tie.invariant-loop-l
invariant-loop-l f re im y r₀ l₀ r l = Filled (pair_width f re im y) 16 l r₀ r

abbrev decreases-loop-l : of.Tie.decreases-loop-l
decreases-loop-l f re im y r₀ l₀ r l = 16 - l

width-requires : of.Tie.Need-width-w-requires invariant-loop-l decreases-loop-l
width-requires c κs =
    let s = c in
    record { factored = s.requires.factored; re_most = s.requires.re_most; im_most = s.requires.im_most; y_below = s.requires.y_below; l_below = omega arith }

loop-again : of.Tie.Need-loop-l-preserved invariant-loop-l decreases-loop-l
loop-again c = fill-turn c.loop-l.invariant (omega arith) c.width-w.ensures.0

pub width_row_spec : {M : Type 1} → of.Statement.statement M
width_row_spec = of.Tie.close (of.Tie.spec
    invariant-loop-l decreases-loop-l (λ c. fill_start refl) width-requires (λ c. search rules) (λ c. search rules) (λ c. search rules) (λ c. search rules)
    loop-again (λ c. fill_done c.loop-l.invariant (omega arith)))
