-- The rows are added to one after the other.
use Rattle.std.specs.Prelude.{◌-◌, ◌^◌, ◌+ℤ◌}
use Rattle.range_pair.specs.Prelude.{sym, ap, subst, ◌∙◌, [], arith, rules, get_or, pos, tab, grid, cell, LineMost}
use Rattle.sequences.specs.TabLaws.{Filled, fill_start, fill-turn, fill-rest, fill_done}
use Rattle.tile_spectrum.specs.ColumnLaws.{grid-rows, row-length}
use Rattle.range_pair.specs.Added.{row_plus}
use Rattle.range_pair.proofs.adding.add_pair as of

abbrev invariant-loop-y : of.Tie.invariant-loop-y
invariant-loop-y p sum₀ y₀ sum y = Filled (λ y. tab 32 (λ l. cell (pos 0) sum₀ y l +ℤ cell (pos 0) p y l)) 16 y sum₀ sum

abbrev decreases-loop-y : of.Tie.decreases-loop-y
decreases-loop-y p sum₀ y₀ sum y = 16 - y

add-row-requires : of.Tie.Need-add_row-requires invariant-loop-y decreases-loop-y
add-row-requires c κs =
    let l = c in
    let s = l in
    let y = l.loop-y.y in
    let e = fill-rest l.loop-y.invariant (omega arith) [] in
    let p = s.requires.sums in
    record { part = s.requires.part.line y; sums = record { most = subst (LineMost (2 ^ 40)) (sym e) (p.most.line y); long = row-length 16 32 _ p.paired.is y (omega arith) e } }

loop-again : of.Tie.Need-loop-y-preserved invariant-loop-y decreases-loop-y
unfolding cell
loop-again c =
    let l = c in
    let a = l.args in
    fill-turn l.loop-y.invariant (omega arith)
    (c.add_row.ensures ∙ ap (λ r. row_plus r (λ k. get_or (get_or a.p.now l.loop-y.y []) k (pos 0))) (fill-rest l.loop-y.invariant (omega arith) []))

returns : of.Tie.Need-returns invariant-loop-y decreases-loop-y
unfolding grid
returns c = fill_done c.loop-y.invariant (omega arith)

pub add_pair_spec : {M : Type 1} → of.Statement.statement M
add_pair_spec = of.Tie.close (of.Tie.spec
    invariant-loop-y decreases-loop-y (λ c. fill_start (grid-rows 16 32 _ c.requires.sums.paired.is)) (λ c. search rules) (λ c. search rules) (λ c. search rules)
    (λ c. search rules) add-row-requires (λ c. search rules) (λ c. search rules) loop-again returns)
