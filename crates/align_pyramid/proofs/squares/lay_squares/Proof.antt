-- Level 0 is laid row by row.
use Rattle.std.specs.Prelude.{◌+◌, ◌-◌, ◌*◌, ◌/◌, ◌≤◌}
use Rattle.align_pyramid.specs.Prelude.{sample_at, bayer_sum, refl, arith, rules}
use Rattle.sequences.specs.Place.{row_room}
use Rattle.align_pyramid.proofs.Lay.{Laying, lay-start, lay-turn, lay_done}
use Rattle.align_pyramid.proofs.squares.lay_squares as of

abbrev invariant-loop-row : of.Tie.invariant-loop-row
invariant-loop-row shape frame samples work₀ to row₀ row-end work row = Laying work₀ to (shape.height / 2) (shape.width / 2) (bayer_sum (sample_at shape samples frame)) row work

abbrev decreases-loop-row : of.Tie.decreases-loop-row
decreases-loop-row shape frame samples work₀ to row₀ row-end work row = shape.height / 2 - row

room : (c : of.Tie.After-struct_known-in-loop-row-1 invariant-loop-row decreases-loop-row) → let s = c.before.before.before.before.before.args.shape in c.before.before.loop-row.row * (s.width / 2) + s.width / 2 ≤ s.height / 2 * (s.width / 2)
room c = row_room c.before.before.loop-row.row _ _ (omega arith)

loop-again : of.Tie.Need-loop-row-preserved invariant-loop-row decreases-loop-row
loop-again c = lay-turn c.before.before.before.before.before.loop-row.invariant (omega arith) (λ column k. refl) c.before.square_row.ensures

returns : of.Tie.Need-returns invariant-loop-row decreases-loop-row
returns c = lay_done c.before.loop-row.invariant (omega arith)

pub lay_squares_spec : {M : Type 1} → of.Statement.statement M
lay_squares_spec = of.Tie.close (of.Tie.spec
    invariant-loop-row decreases-loop-row (λ c. lay-start (search rules)) (λ c. omega (arith, room c))
    (λ c. omega (arith, room c)) (λ c κs. let r = room c.before in search rules)
    (λ c. search rules) (λ c. search rules) loop-again (λ c. search rules) returns)
