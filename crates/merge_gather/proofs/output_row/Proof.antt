-- A block a turn, each from the four pairs of tiles over it.
use mathlib.Core.Path.{◌≡◌, refl, sym, ap, ap₂, ◌∙◌, subst}
use Rattle.std.specs.Prelude.{◌+◌, ◌-◌, ◌*◌, ◌/◌, ◌≤◌}
use Rattle.merge_gather.specs.Prelude.{arith, rules, sample_length, TileSide}
use native.Mathlib.Nat.{mul-le-mul_left}
use Rattle.sequences.specs.Write.{written, Writing, write-start, write_done}
use Rattle.merge_gather.specs.Work.{Weighed, row_span, further, Roomy, word_from}
use Rattle.merge_gather.proofs.Weighing.{side-most, half_above, row-in-half, upper-below, blocks-most, blocks-whole, block_room}
use Rattle.merge_gather.proofs.Blocks.{block-turn, block-weighed}
use Rattle.merge_gather.proofs.output_row as of

abbrev invariant-loop-column : of.Tie.invariant-loop-column
invariant-loop-column reference samples parity y top work output₀ side half lower upper count by row column₀ column-end output column =
    Writing output₀ row.start (word_from samples work row count) (row.side * column-end) (row.side * column) output

abbrev decreases-loop-column : of.Tie.decreases-loop-column
decreases-loop-column reference samples parity y top work output₀ side half lower upper count by row column₀ column-end output column = column-end - column

weights-requires : of.Tie.Need-weights-lower-requires invariant-loop-column decreases-loop-column
weights-requires c κs =
    let s = c in
    let sided = s.requires.inside.sided in
    record { sided = sided; table = c.window_of-window.ensures; row = omega (arith, row-in-half sided s.args.y, upper-below sided _ (row-in-half sided s.args.y)) }

weights-requires-2 : of.Tie.Need-weights-upper-requires invariant-loop-column decreases-loop-column
weights-requires-2 c κs =
    let s = c in
    let sided = s.requires.inside.sided in
    record { sided = sided; table = c.window_of-window.ensures; row = upper-below sided _ (row-in-half sided s.args.y) }

add-weights : of.Tie.Need-overflow_add-y invariant-loop-column decreases-loop-column
add-weights c =
    let s = c in
    let sided = s.requires.inside.sided in
    omega (arith, side-most sided, upper-below sided _ (row-in-half sided s.args.y))

-- the function's start, and the room of the row, at a turn
abbrev start : of.Tie.At-loop-column invariant-loop-column decreases-loop-column → of.Tie.Start invariant-loop-column decreases-loop-column
start l = l.before.before.before.before.before.before.before.before.before.before

abbrev roomy : (l : of.Tie.At-loop-column invariant-loop-column decreases-loop-column) → Roomy (start l).args.shape l.row_span-row.result
roomy l = l.row_span-row.ensures.1

-- the row has the burst's side
side_is : (l : of.Tie.At-loop-column invariant-loop-column decreases-loop-column) → l.row_span-row.result.side ≡ (start l).args.shape.side
unfolding row_span
side_is l = ap (λ p. p.side) l.row_span-row.ensures.0

sided : (l : of.Tie.At-loop-column invariant-loop-column decreases-loop-column) → TileSide l.row_span-row.result.side
sided l = subst TileSide (sym (side_is l)) (start l).requires.inside.sided

loop-holds : of.Tie.Need-loop-column-init invariant-loop-column decreases-loop-column
unfolding row_span
loop-holds c =
    let s = c in
    let a = s.args in
    let n = a.shape.side in
    let p = row_span a.shape a.reference a.parity a.y a.top in
    let whole : n * (a.shape.width / n) ≡ a.shape.width = blocks-whole s.requires.inside.sided a.shape.width s.requires.inside.allowed.wide.whole in
    let none : 0 ≡ n * 0 = omega arith in
    subst (λ p. Writing a.output.now p.start (word_from a.samples.now a.work.now p a.shape.count) (p.side * (a.shape.width / n)) (p.side * 0) a.output.now) (sym c.row_span-row.ensures.0)
    (subst (λ k. Writing a.output.now p.start (word_from a.samples.now a.work.now p a.shape.count) (n * (a.shape.width / n)) k a.output.now) none (write-start (omega (arith, whole, s.requires.output_room))))

further-requires : of.Tie.Need-further-span-requires invariant-loop-column decreases-loop-column
further-requires c κs =
    let l = c.before in
    let s = start l in
    record { small = (roomy l).small; sided = sided l; column_below = omega (arith, c.loop-column-test.true, blocks-most s.requires.inside.sided s.args.shape.width s.requires.inside.allowed.wide.most) }

output-block-requires : of.Tie.Need-output_block-requires invariant-loop-column decreases-loop-column
unfolding row_span
output-block-requires c κs =
    let f = c.before.before.before in
    let l = f.before.before in
    let s = start l in
    let a = s.args in
    let r = l.row_span-row in
    let column = l.loop-column.column in
    let taken = f.loop-column-test.true in
    let e = f.further-span.ensures ∙ ap (λ p. further p column) r.ensures.0 in
    let w = l in
    let inside = block_room s.requires.inside.sided a.shape.width column taken in
    record {
      weighed =
          subst (λ p. Weighed a.work.now p w.weights-lower.result w.weights-upper.result) (sym e)
          (block-weighed a.shape a.reference a.parity a.y a.top column s.requires.inside.sided s.requires.over w.weights-lower.ensures w.weights-upper.ensures taken);
      divided = record { some = s.requires.inside.allowed.some; few = s.requires.inside.allowed.few; inverse_is = refl };
      samples_room = rw e (omega (arith, subst (λ p. p.from + a.shape.width ≤ sample_length a.shape) r.ensures.0 (roomy l).samples, s.requires.samples_long, inside));
      output_room = rw e (omega (arith, s.requires.output_room, inside, l.loop-column.invariant.same));
    }

add-column : of.Tie.Need-overflow_step-column invariant-loop-column decreases-loop-column
add-column c =
    let s = start c.before.before.before.before.before.before.before.before in
    omega (arith, blocks-most s.requires.inside.sided s.args.shape.width s.requires.inside.allowed.wide.most, c.loop-column-test.true)

loop-again : of.Tie.Need-loop-column-preserved invariant-loop-column decreases-loop-column
loop-again c =
    let b = c.before.before in
    let f = b.before.before.before.before in
    let l = f.before.before in
    block-turn _ _ _ _ _ (sided l) l.loop-column.invariant (omega (arith, mul-le-mul_left {m = l.loop-column.column + 1} {n = (start l).args.shape.width / (start l).args.shape.side} l.row_span-row.result.side (omega (arith, f.loop-column-test.true)))) f.further-span.ensures b.output_block.ensures

returns : of.Tie.Need-returns invariant-loop-column decreases-loop-column
unfolding row_span
returns c =
    let l = c.before in
    let s = start l in
    let a = s.args in
    let r = l.row_span-row in
    let columns = a.shape.width / a.shape.side in
    let size : r.result.side * columns ≡ a.shape.width = ap (λ n. n * columns) (side_is l) ∙ blocks-whole s.requires.inside.sided a.shape.width s.requires.inside.allowed.wide.whole in
    write_done l.loop-column.invariant (mul-le-mul_left {m = columns} {n = l.loop-column.column} r.result.side c.loop-column-test.false)
    ∙ ap₂ (λ p n. written a.output.now p.start (word_from a.samples.now a.work.now p a.shape.count) n) r.ensures.0 size

pub output_row_spec : {M : Type 1} → of.Statement.statement M
output_row_spec = of.Tie.close (of.Tie.spec
    invariant-loop-column decreases-loop-column (λ c κs. search rules) (λ c. half_above c.requires.inside.sided) weights-requires (λ c. half_above c.requires.inside.sided) add-weights weights-requires-2
    (λ c. omega (arith, c.requires.inside.allowed.few)) (λ c. omega (arith, c.requires.inside.allowed.some))
    (λ c κs. c.requires.inside) (λ c. omega (arith, half_above c.requires.inside.sided)) loop-holds further-requires output-block-requires add-column (λ c. omega (arith, c.loop-column-test.true)) loop-again (λ c. search rules) returns)
