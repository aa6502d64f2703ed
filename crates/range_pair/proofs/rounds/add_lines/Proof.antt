-- The rows are added to one after the other.
use Rattle.std.specs.Prelude.{◌-◌, ◌%◌, ◌^◌, ◌+ℤ◌}
use Rattle.range_pair.specs.Prelude.{sym, ap, subst, ◌∙◌, [], arith, rules, get_or, pos, tab, grid, cell, LineMost}
use Rattle.sequences.specs.TabLaws.{Filled, fill_start, fill-turn, fill-rest, fill_done}
use Rattle.tile_spectrum.specs.ColumnLaws.{grid-rows, row-length}
use Rattle.tile_pair.proofs.WholeRows.{whole_row}
use Rattle.range_pair.specs.Factors.{greatest_of, least_of}
use Rattle.range_pair.specs.Added.{row_plus, line_end, tile_end}
use Rattle.range_pair.proofs.rounds.add_lines as of

abbrev invariant-loop-y : of.Tie.invariant-loop-y
invariant-loop-y low high widths greatest₀ least₀ y₀ greatest least y =
    (Filled (λ y. tab 32 (λ l. cell (pos 0) greatest₀ y l +ℤ tile_end low high widths greatest_of y l)) 16 y greatest₀ greatest)
    × (Filled (λ y. tab 32 (λ l. cell (pos 0) least₀ y l +ℤ tile_end low high widths least_of y l)) 16 y least₀ least)

abbrev decreases-loop-y : of.Tie.decreases-loop-y
decreases-loop-y low high widths greatest₀ least₀ y₀ greatest least y = 16 - y

loop-holds : of.Tie.Need-loop-y-init invariant-loop-y decreases-loop-y
loop-holds c = (fill_start (grid-rows 16 32 _ c.requires.greatests.paired.is), fill_start (grid-rows 16 32 _ c.requires.leasts.paired.is))

add-line-requires : of.Tie.Need-add_line-requires invariant-loop-y decreases-loop-y
add-line-requires c κs =
    let l = c in
    let p = l.requires in
    let y = l.loop-y.y in
    let d = fill-rest l.loop-y.invariant.0 (omega arith) [] in
    let e = fill-rest l.loop-y.invariant.1 (omega arith) [] in
    record {
      low_in = whole_row p.low_in y (omega arith);
      high_in = whole_row p.high_in y (omega arith);
      widths_most = p.widths_most.line (y % 8);
      greatests = record { most = subst (LineMost (2 ^ 40)) (sym d) (p.greatests.most.line y); long = row-length 16 32 _ p.greatests.paired.is y (omega arith) d };
      leasts = record { most = subst (LineMost (2 ^ 40)) (sym e) (p.leasts.most.line y); long = row-length 16 32 _ p.leasts.paired.is y (omega arith) e };
    }

loop-again : of.Tie.Need-loop-y-preserved invariant-loop-y decreases-loop-y
unfolding cell
loop-again c =
    let l = c in
    let a = l.args in
    let y = l.loop-y.y in
    let p = line_end (get_or a.low.now y []) (get_or a.high.now y []) (get_or a.widths.now (y % 8) []) in (
      fill-turn l.loop-y.invariant.0 (omega arith) (c.add_line.ensures.greatest_is ∙ ap (λ r. row_plus r (p greatest_of)) (fill-rest l.loop-y.invariant.0 (omega arith) [])),
      fill-turn l.loop-y.invariant.1 (omega arith) (c.add_line.ensures.least_is ∙ ap (λ r. row_plus r (p least_of)) (fill-rest l.loop-y.invariant.1 (omega arith) [])),
    )

returns : of.Tie.Need-returns invariant-loop-y decreases-loop-y
unfolding grid
returns c = record { greatest_is = fill_done c.loop-y.invariant.0 (omega arith); least_is = fill_done c.loop-y.invariant.1 (omega arith) }

pub add_lines_spec : {M : Type 1} → of.Statement.statement M
add_lines_spec = of.Tie.close (of.Tie.spec
    invariant-loop-y decreases-loop-y loop-holds (λ c. search rules) (λ c. search rules) (λ c. search rules) (λ c. search rules)
    (λ c. search rules) (λ c. search rules) (λ c. search rules) (λ c. search rules) (λ c. search rules) (λ c. search rules)
    add-line-requires (λ c. search rules) (λ c. search rules) loop-again returns)
