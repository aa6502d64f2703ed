-- The rows are stored one after the other.
use Rattle.std.specs.Prelude.{◌-◌}
use Rattle.range_pair.specs.Prelude.{refl, arith, rules, tab, grid}
use Rattle.sequences.specs.TabLaws.{Filled, fill_start, fill-turn, fill_done}
use Rattle.range_pair.specs.Factors.{pair_width}
use Rattle.range_pair.proofs.widths.widths as of

abbrev invariant-loop-y : of.Tie.invariant-loop-y
invariant-loop-y f re im r₀ y₀ r y = Filled (λ y. tab 16 (pair_width f re im y)) 8 y r₀ r

abbrev decreases-loop-y : of.Tie.decreases-loop-y
decreases-loop-y f re im r₀ y₀ r y = 8 - y

width-row-requires : of.Tie.Need-width_row-requires invariant-loop-y decreases-loop-y
width-row-requires c κs =
    let s = c in
    record { factored = s.requires.factored; re_most = s.requires.re_most; im_most = s.requires.im_most; y_below = omega arith }

loop-again : of.Tie.Need-loop-y-preserved invariant-loop-y decreases-loop-y
loop-again c = fill-turn c.loop-y.invariant (omega arith) c.width_row.ensures

returns : of.Tie.Need-returns invariant-loop-y decreases-loop-y
unfolding grid
returns c = fill_done c.loop-y.invariant (omega arith)

pub widths_spec : {M : Type 1} → of.Statement.statement M
widths_spec = of.Tie.close (of.Tie.spec
    invariant-loop-y decreases-loop-y (λ c. fill_start refl) width-row-requires (λ c. search rules) (λ c. search rules) (λ c. search rules) (λ c. search rules)
    loop-again returns)
