-- The first store, the loop's and the last are stores in order.
use Rattle.sequences.specs.Write.{Writing, write-turn}
use Rattle.align_pyramid.proofs.Ends.{ends-start, ends-length}
use Rattle.align_pyramid.proofs.Columns.{columns-done}
use Rattle.std.specs.Prelude.{◌≡◌, ◌-◌}
use Rattle.align_pyramid.specs.Prelude.{column_sum, arith, rules, length}
use Rattle.align_pyramid.specs.Words.{image_in}
use Rattle.align_pyramid.proofs.images.column_sums as of

abbrev invariant-loop-column : of.Tie.invariant-loop-column
invariant-loop-column work image row sums₀ width column₀ sums column = Writing sums₀ 1 (column_sum image.height (image_in work image) row) image.width column sums

abbrev decreases-loop-column : of.Tie.decreases-loop-column
decreases-loop-column work image row sums₀ width column₀ sums column = width - column

loop-holds : of.Tie.Need-loop-column-init invariant-loop-column decreases-loop-column
loop-holds c = let a = c.before.before.args in ends-start a.sums.now c.column_sum.result a.image.width (omega arith)

loop-again : of.Tie.Need-loop-column-preserved invariant-loop-column decreases-loop-column
loop-again c = write-turn c.before.before.loop-column.invariant (omega arith) c.column_sum-in-loop-column.ensures

long : (c : of.Tie.After-column_sum-2 invariant-loop-column decreases-loop-column) → length c.before.before.loop-column.sums ≡ length c.before.before.before.before.before.args.sums.now
long c = let s = c.before.before.before in let a = s.before.before.args in ends-length a.sums.now s.column_sum.result a.image.width (omega arith) c.before.before.loop-column.invariant

returns : of.Tie.Need-returns invariant-loop-column decreases-loop-column
returns c =
    let s = c.before.before.before in
    let a = s.before.before.args in
    columns-done _ a.sums.now s.column_sum.result a.image.width (omega arith) (omega arith) c.before.before.loop-column.invariant (omega arith) s.column_sum.ensures c.column_sum-2.ensures

pub column_sums_spec : {M : Type 1} → of.Statement.statement M
column_sums_spec = of.Tie.close (of.Tie.spec
    invariant-loop-column decreases-loop-column (λ c κs. search rules) (λ c. search rules) loop-holds (λ c κs. search rules)
    (λ c. search rules) (λ c. search rules) (λ c. search rules) (λ c. search rules)
    (λ c. search rules) loop-again (λ c. search rules) (λ c κs. search rules) (λ c. search rules)
    (λ c. search rules) (λ c. let e = long c in search rules) (λ c. let e = long c in search rules)
    returns)
