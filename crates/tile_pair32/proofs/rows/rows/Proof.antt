-- `tile_pair32::rows::rows`: the rows' transforms are stored two at a time.
use Rattle.std.specs.Prelude.{◌+◌, ◌/◌, ◌%◌, ◌-◌}
use Rattle.tile_pair32.specs.Prelude.{side32, arith, rules, pos, grid, cell, halfcomplex_of, double_line, plane_in, long_doubles}
use Rattle.tile_spectrum.specs.ColumnLaws.{grid-rows, row-length}
use Rattle.tile_spectrum.specs.RowLaws.{RowsSet, rows_start, rows-first, rows-second, rows-turn, rows-done}
use Rattle.tile_pair32.proofs.rows.rows as of

abbrev invariant-loop-b : of.Tie.invariant-loop-b
invariant-loop-b t r₀ b₀ r b = RowsSet 16 {H = Unit {0}} (λ _ b. double_line 64 (λ l. halfcomplex_of side32 (plane_in (cell (pos 0) t) (l % 2) b) (l / 2))) b r₀ r

abbrev decreases-loop-b : of.Tie.decreases-loop-b
decreases-loop-b t r₀ b₀ r b = 16 - b

halfcomplex-requires : of.Tie.Need-halfcomplex-requires invariant-loop-b decreases-loop-b
halfcomplex-requires c κs =
    let l = c.before.before in
    (l.before.requires.0.line l.loop-b.b, row-length 32 64 _ l.before.requires.1.is l.loop-b.b (omega arith) (rows-first l.loop-b.invariant (omega arith)))

halfcomplex-requires-2 : of.Tie.Need-halfcomplex-requires-in-loop-b invariant-loop-b decreases-loop-b
halfcomplex-requires-2 c κs =
    let h = c.before in
    let l = h.before.before.before in
    let b = l.loop-b.b in
    (l.before.requires.0.line (16 + b), row-length 32 64 _ l.before.requires.1.is (16 + b) (omega arith) (rows-second l.loop-b.invariant (omega arith) h.halfcomplex.new.r))

loop-again : of.Tie.Need-loop-b-preserved invariant-loop-b decreases-loop-b
unfolding cell
loop-again c =
    let h = c.before.before in
    let l = h.before.before.before in
    rows-turn l.loop-b.invariant (omega arith) (λ _. h.halfcomplex.ensures) (λ _. c.halfcomplex-in-loop-b.ensures)

returns : of.Tie.Need-returns invariant-loop-b decreases-loop-b
unfolding grid long_doubles
returns c = rows-done c.before.loop-b.invariant (omega arith) tt

pub rows_spec : {M : Type 1} → of.Statement.statement M
rows_spec = of.Tie.close (of.Tie.spec
    invariant-loop-b decreases-loop-b (λ c. rows_start (grid-rows 32 64 _ c.requires.1.is)) (λ c. search rules)
    (λ c. search rules) (λ c. search rules) (λ c. search rules) halfcomplex-requires
    (λ c. search rules) (λ c. search rules) (λ c. search rules) (λ c. search rules)
    (λ c. search rules) (λ c. search rules) halfcomplex-requires-2 (λ c. search rules)
    (λ c. search rules) loop-again returns)
