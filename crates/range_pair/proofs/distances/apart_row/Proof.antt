-- The places are stored one after the other.
use Rattle.std.specs.Prelude.{◌≡◌, ◌-◌}
use Rattle.range_pair.specs.Prelude.{refl, ◌∙◌, arith, rules, get_or, w64, to_z, of_z, nan}
use Rattle.sequences.specs.TabLaws.{Filled, fill_start, fill-turn, fill_done}
use Rattle.tile_spectrum.specs.Lines.DoubleCasts.{whole_at}
use Rattle.range_pair.specs.Factors.{place_apart}
use Rattle.range_pair.proofs.distances.apart_row as of

abbrev invariant-loop-l : of.Tie.invariant-loop-l
invariant-loop-l a b r₀ l₀ r l = Filled (λ l. place_apart (get_or a l nan) (get_or b l nan)) 32 l r₀ r

abbrev decreases-loop-l : of.Tie.decreases-loop-l
decreases-loop-l a b r₀ l₀ r l = 32 - l

apart-requires : of.Tie.Need-apart-requires invariant-loop-l decreases-loop-l
apart-requires c κs =
    let l = c in
    (whole_at l.requires.0 l.loop-l.l (omega arith), whole_at l.requires.1 l.loop-l.l (omega arith))

loop-again : of.Tie.Need-loop-l-preserved invariant-loop-l decreases-loop-l
loop-again c =
    let l = c in
    let e : to_z w64 (of_z w64 c.apart.result) ≡ c.apart.result = search rules in
    fill-turn l.loop-l.invariant (omega arith) (e ∙ c.apart.ensures)

returns : of.Tie.Need-returns invariant-loop-l decreases-loop-l
returns c =
    fill_done c.loop-l.invariant (omega arith)

pub apart_row_spec : {M : Type 1} → of.Statement.statement M
apart_row_spec = of.Tie.close (of.Tie.spec
    invariant-loop-l decreases-loop-l (λ c. fill_start refl) (λ c. search rules) (λ c. search rules)
    (λ c. search rules) (λ c. search rules) apart-requires (λ c. search rules) (λ c. search rules)
    (λ c. search rules) (λ c. search rules) loop-again returns)
