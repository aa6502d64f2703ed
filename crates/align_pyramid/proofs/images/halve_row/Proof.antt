-- The column sums are taken before the stores. A row's values come of them in order.
use Rattle.std.specs.Prelude.{◌+◌, ◌-◌, ◌*◌, ◌/◌, ◌≤◌, ◌<◌}
use Rattle.align_pyramid.specs.Prelude.{ap, ◌∙◌, List, ℕ, arith, rules, get_or, pos, w64, column_most, weights}
use mir.ValLaws.{to_z_pos}
use Rattle.sequences.specs.Write.{Writing, write-start, write-turn, write_done, written-ext}
use Rattle.align_pyramid.proofs.Columns.{sum-most, sums-halved}
use Rattle.align_pyramid.proofs.images.halve_row as of

-- a halved value, of four sums
abbrev half : List ℕ → ℕ → ℕ
half sums column = (weights (get_or sums (2 * column) 0) (get_or sums (2 * column + 1) 0) (get_or sums (2 * column + 2) 0) (get_or sums (2 * column + 3) 0) + 32) / 64

abbrev invariant-loop-column : of.Tie.invariant-loop-column
invariant-loop-column work₀ row to sums column₀ column-end work column = Writing work₀ to (λ column. pos (half sums column)) column-end column work

abbrev decreases-loop-column : of.Tie.decreases-loop-column
decreases-loop-column work₀ row to sums column₀ column-end work column = column-end - column

low : (c : of.Tie.After-column_sums invariant-loop-column decreases-loop-column) (k : ℕ) → k < c.before.before.before.args.image.width + 2 → get_or c.column_sums.new.sums k 0 ≤ column_most
low c = let s = c.before.before.before in sum-most s.requires.rows.source s.args.row s.args.sums.now (omega arith) c.column_sums.ensures

halved-value-requires : of.Tie.Need-halved_value-value-requires invariant-loop-column decreases-loop-column
halved-value-requires c κs =
    let most = low c.before.before.before.before.before.before.before.before.before in
    record { first = most _ (omega arith); second = most _ (omega arith); third = most _ (omega arith); fourth = most _ (omega arith) }

loop-again : of.Tie.Need-loop-column-preserved invariant-loop-column decreases-loop-column
loop-again c = write-turn c.before.before.before.before.before.before.loop-column.invariant (omega arith) (to_z_pos w64 _ (omega arith) ∙ ap pos c.halved_value-value.ensures)

returns : of.Tie.Need-returns invariant-loop-column decreases-loop-column
returns c =
    let summed = c.before.before.before.before.before in
    let s = summed.before.before.before in
    write_done c.before.loop-column.invariant (omega arith)
    ∙ written-ext s.args.work.now s.args.to (s.args.image.width / 2) _ _
    (λ column h. ap pos (sums-halved s.requires.rows.source s.args.row s.args.sums.now (omega arith) summed.column_sums.ensures column h))

pub halve_row_spec : {M : Type 1} → of.Statement.statement M
halve_row_spec = of.Tie.close (of.Tie.spec
    invariant-loop-column decreases-loop-column (λ c κs. search rules) (λ c. write-start (search rules)) (λ c. search rules)
    (λ c. search rules) (λ c. search rules) (λ c. search rules) (λ c. search rules)
    (λ c. search rules) (λ c. search rules) (λ c. search rules) (λ c. search rules)
    (λ c. search rules) (λ c. search rules) (λ c. search rules) halved-value-requires
    (λ c. search rules) (λ c. search rules) (λ c. search rules) (λ c. search rules)
    (λ c. search rules) (λ c. search rules) loop-again (λ c. search rules) (λ c. search rules)
    returns)
