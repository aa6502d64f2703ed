-- The names, the sizes and the rows, one after another; and they have room.
use Rattle.std.specs.Prelude.{◌++◌, ◌≤◌, ◌∷◌}
use Rattle.std.proofs.Common.{arith, rules, ap, ◌∙◌, append_assoc, length-append}
use Rattle.printing.specs.LineLaws.{line-length, rows-length}
use Rattle.report.specs.Prelude.{[], length, number_line, sample_rows, stack_names}
use Rattle.report.specs.Stack.{frame_text}
use Rattle.report.proofs.Digits.{none-above, each-below}
use Rattle.report.proofs.stack.put_merged.Goals as goal

sizes : length (number_line (64 ∷ 64 ∷ [])) ≤ 42
sizes = line-length 19 (64 ∷ 64 ∷ []) (each-below _ 64 (64 ∷ []) (omega arith) (each-below _ 64 [] (omega arith) (none-above _ (omega arith))))

pub put_numbers-requires : goal.put_numbers-requires
put_numbers-requires c =
    let names = c.put_bytes.ensures ∙ ap (λ t. t ++ stack_names) c.requires.empty in
    (search rules, omega (arith, sizes, ap length names))

pub put_rows-requires : goal.put_rows-requires
put_rows-requires c =
    let names = c.put_bytes.ensures ∙ ap (λ t. t ++ stack_names) c.requires.empty in
    let before = ap length c.put_numbers.ensures ∙ length-append c.put_bytes.new.self (number_line (64 ∷ 64 ∷ [])) in
    let rows = rows-length 4 64 64 c.args.samples.now (λ k. omega (arith, c.type_inv.samples k)) in
    (search rules, (omega arith, omega (arith, sizes, ap length names, before, rows)))

pub returns : goal.returns
unfolding frame_text
returns c =
    let names = c.put_bytes.ensures ∙ ap (λ t. t ++ stack_names) c.requires.empty in
    let line = number_line (64 ∷ 64 ∷ []) in
    let rows = sample_rows 64 64 c.args.samples.now in
    c.put_rows.ensures ∙ ap (λ t. t ++ rows) (c.put_numbers.ensures ∙ ap (λ t. t ++ line) names) ∙ append_assoc stack_names line rows
