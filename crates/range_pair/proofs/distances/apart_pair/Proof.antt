-- The rows are stored one after the other.
use Rattle.std.specs.Prelude.{◌-◌}
use Rattle.range_pair.specs.Prelude.{refl, arith, rules, nan, tab, grid, cell}
use Rattle.sequences.specs.TabLaws.{Filled, fill_start, fill-turn, fill_done}
use Rattle.tile_pair.proofs.WholeRows.{whole_row}
use Rattle.range_pair.specs.Factors.{place_apart}
use Rattle.range_pair.proofs.distances.apart_pair as of

abbrev invariant-loop-k : of.Tie.invariant-loop-k
invariant-loop-k a b r₀ k₀ r k = Filled (λ k. tab 32 (λ l. place_apart (cell nan a k l) (cell nan b k l))) 16 k r₀ r

abbrev decreases-loop-k : of.Tie.decreases-loop-k
decreases-loop-k a b r₀ k₀ r k = 16 - k

apart-row-requires : of.Tie.Need-apart_row-requires invariant-loop-k decreases-loop-k
apart-row-requires c κs =
    let l = c in
    (whole_row l.requires.0 l.loop-k.k (omega arith), whole_row l.requires.1 l.loop-k.k (omega arith))

loop-again : of.Tie.Need-loop-k-preserved invariant-loop-k decreases-loop-k
unfolding cell
loop-again c =
    fill-turn c.loop-k.invariant (omega arith) c.apart_row.ensures

returns : of.Tie.Need-returns invariant-loop-k decreases-loop-k
unfolding grid
returns c =
    fill_done c.loop-k.invariant (omega arith)

pub apart_pair_spec : {M : Type 1} → of.Statement.statement M
apart_pair_spec = of.Tie.close (of.Tie.spec
    invariant-loop-k decreases-loop-k (λ c. fill_start refl) (λ c. search rules) (λ c. search rules)
    (λ c. search rules) (λ c. search rules) apart-row-requires (λ c. search rules)
    (λ c. search rules) (λ c. search rules) (λ c. search rules) loop-again returns)
