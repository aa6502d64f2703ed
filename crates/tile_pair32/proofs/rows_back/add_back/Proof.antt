-- `tile_pair32::rows_back::add_back`: P of the rows is added two at a time.
use Rattle.std.specs.Prelude.{◌+◌, ◌/◌, ◌%◌, ◌-◌, ◌^◌, ◌+ℤ◌}
use Rattle.tile_pair32.specs.Prelude.{side32, sym, subst, ◌∙◌, arith, rules, pos, away, tab, grid, cell, half_sum_of, LineMost, long_column_most, plane_in, LongInDouble}
use Rattle.tile_spectrum.specs.ColumnLaws.{grid-rows, row-length}
use Rattle.tile_spectrum.specs.AddingLaws.{added-to}
use Rattle.tile_spectrum.specs.RowLaws.{RowsSet, rows_start, rows-first, rows-second, rows-turn, rows-done}
use Rattle.tile_pair32.proofs.WholeRows.{whole_row}
use Rattle.tile_pair32.proofs.rows_back.add_back as of

abbrev invariant-loop-y : of.Tie.invariant-loop-y
invariant-loop-y h low middle sum₀ y₀ sum y =
    RowsSet 16 {H = LongInDouble (long_column_most low middle) h} (λ w y. tab 64 (λ l. cell (pos 0) sum₀ y l +ℤ away (half_sum_of side32 (plane_in w.number (l % 2) y) (l / 2)) (2 ^ 31))) y sum₀ sum

abbrev decreases-loop-y : of.Tie.decreases-loop-y
decreases-loop-y h low middle sum₀ y₀ sum y = 16 - y

add-line-requires : of.Tie.Need-add_line-requires invariant-loop-y decreases-loop-y
add-line-requires c κs =
    let l = c.before.before in
    let y = l.loop-y.y in
    let e = rows-first l.loop-y.invariant (omega arith) in
    record {
      whole = whole_row l.before.requires.whole y (omega arith);
      sums_most = subst (LineMost (2 ^ 40)) (sym e) (l.before.requires.sums_most.line y);
      long = row-length 32 64 _ l.before.requires.paired.is y (omega arith) e;
    }

add-line-requires-2 : of.Tie.Need-add_line-requires-in-loop-y invariant-loop-y decreases-loop-y
add-line-requires-2 c κs =
    let a = c.before in
    let l = a.before.before.before in
    let y = l.loop-y.y in
    let e = rows-second l.loop-y.invariant (omega arith) a.add_line.new.sum in
    record {
      whole = whole_row l.before.requires.whole (16 + y) (omega arith);
      sums_most = subst (LineMost (2 ^ 40)) (sym e) (l.before.requires.sums_most.line (16 + y));
      long = row-length 32 64 _ l.before.requires.paired.is (16 + y) (omega arith) e;
    }

loop-again : of.Tie.Need-loop-y-preserved invariant-loop-y decreases-loop-y
unfolding cell
loop-again c =
    let a = c.before.before in
    let l = a.before.before.before in
    let y = l.loop-y.y in
    rows-turn l.loop-y.invariant (omega arith)
    (λ w. a.add_line.ensures (whole_row w y (omega arith)) ∙ added-to 64 _ (rows-first l.loop-y.invariant (omega arith)))
    (λ w. c.add_line-in-loop-y.ensures (whole_row w (16 + y) (omega arith)) ∙ added-to 64 _ (rows-second l.loop-y.invariant (omega arith) a.add_line.new.sum))

returns : of.Tie.Need-returns invariant-loop-y decreases-loop-y
unfolding grid
returns c = rows-done c.before.loop-y.invariant (omega arith)

pub add_back_spec : {M : Type 1} → of.Statement.statement M
add_back_spec = of.Tie.close (of.Tie.spec
    invariant-loop-y decreases-loop-y (λ c. rows_start (grid-rows 32 64 _ c.requires.paired.is)) (λ c. search rules)
    (λ c. search rules) (λ c. search rules) (λ c. search rules) add-line-requires
    (λ c. search rules) (λ c. search rules) (λ c. search rules) (λ c. search rules)
    (λ c. search rules) (λ c. search rules) add-line-requires-2 (λ c. search rules)
    (λ c. search rules) loop-again returns)
