-- The least sums stand behind two rows of the greatest.
use Rattle.std.specs.Prelude.{◌≡◌, ◌-◌, ◌*◌, ◌≤◌}
use Rattle.range_frame.specs.Prelude.{sym, ap, subst, ◌∙◌, List, ℕ, arith, rules, length, take, drop, ℤ, row_words, row_written, RowReady}
use lib.ListN.{length-drop}
use lib.Seq.{take_all}
use Rattle.range_frame.specs.Held.{least_part}
use Rattle.range_frame.proofs.planes.output_rows as of

-- where they start lies in the work area
second-in : (s : of.Tie.Start) → 64 * s.args.shape.width ≤ length s.args.work.now
unfolding row_words
second-in s = omega (arith, s.requires.room)

-- the part from there on has them
second_is : (width : ℕ) → 2 * row_words 16 width ≡ 64 * width
unfolding row_words
second_is width = omega arith

part-is : (width : ℕ) (work : List ℤ) → take (length work - 64 * width) (drop (64 * width) work) ≡ least_part width work
part-is width work = take_all (length work - 64 * width) (drop (64 * width) work) (omega (arith, length-drop (64 * width) work)) ∙ ap (λ n. drop n work) (sym (second_is width))

output-row-requires-2 : of.Tie.Need-output_row-requires-2
output-row-requires-2 c κs =
    let s = c in
    let a = s.args in
    subst (RowReady a.shape a.reference a.parity a.y 0 (length a.samples.now) (length a.high.now)) (sym (part-is a.shape.width a.work.now)) s.requires.high_ready

returns : of.Tie.Need-returns
returns c =
    let r = c in
    let q = r in
    let a = q.args in
    record { low_is = q.output_row.ensures; high_is = r.output_row-2.ensures ∙ ap (λ w. row_written a.high.now a.samples.now w a.shape a.reference a.parity a.y 0) (part-is a.shape.width a.work.now) }

pub output_rows_spec : {M : Type 1} → of.Statement.statement M
output_rows_spec = of.Tie.close (of.Tie.spec
    (λ c. search rules) (λ c. search rules) (λ c κs. search rules) (λ c. search rules)
    (λ c. omega (arith, second-in c.before.before.before.before.before.before.before.before))
    (λ c. omega (arith, second-in c.before.before.before.before.before.before.before.before))
    (λ c. search rules) output-row-requires-2 (λ c. search rules) (λ c. search rules) returns)
