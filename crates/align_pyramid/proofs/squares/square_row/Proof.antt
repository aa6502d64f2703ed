-- The store of each column's value, in order.
use Rattle.std.specs.Prelude.{◌-◌, ◌/◌}
use Rattle.align_pyramid.specs.Prelude.{ap, ◌∙◌, arith, rules, pos, w64, sample_at, bayer_sum}
use mir.ValLaws.{to_z_pos}
use Rattle.sequences.specs.Write.{Writing, write-start, write-turn, write_done}
use Rattle.align_pyramid.proofs.squares.square_row as of

abbrev invariant-loop-column : of.Tie.invariant-loop-column
invariant-loop-column shape frame samples row work₀ to column₀ column-end work column = Writing work₀ to (λ column. pos (bayer_sum (sample_at shape samples frame) row column)) (shape.width / 2) column work

abbrev decreases-loop-column : of.Tie.decreases-loop-column
decreases-loop-column shape frame samples row work₀ to column₀ column-end work column = shape.width / 2 - column

loop-again : of.Tie.Need-loop-column-preserved invariant-loop-column decreases-loop-column
loop-again c = write-turn c.before.before.loop-column.invariant (omega arith) (to_z_pos w64 _ (omega arith) ∙ ap pos c.square_sum-value.ensures.0)

returns : of.Tie.Need-returns invariant-loop-column decreases-loop-column
returns c = write_done c.before.loop-column.invariant (omega arith)

pub square_row_spec : {M : Type 1} → of.Statement.statement M
square_row_spec = of.Tie.close (of.Tie.spec
    invariant-loop-column decreases-loop-column (λ c. write-start (search rules)) (λ c κs. search rules) (λ c. search rules)
    (λ c. search rules) (λ c. search rules) (λ c. search rules) (λ c. search rules)
    (λ c. search rules) loop-again (λ c. search rules) returns)
