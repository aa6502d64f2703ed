-- The five numbers are those of the frame's line, and have room.
use Rattle.std.specs.Prelude.{◌≡◌, ◌∷◌, ◌++◌, ◌/◌, ◌^◌, ◌<◌, ◌≤◌}
use Rattle.std.proofs.Common.{arith, rules, length-append}
use Rattle.report.specs.Prelude.{List, [], ℕ, ap, ◌∙◌, length, ℤ, number_line}
use Rattle.report_tally.specs.Tallies.{still_tiles, farthest}
use Rattle.printing.specs.LineLaws.{line-length}
use Rattle.report.specs.Motion.{frame_line}
use Rattle.report.proofs.Digits.{none-above, each-below}
use Rattle.report.proofs.motion.put_frame.Goals as goal

line : (frame : ℕ) (parts : List ℤ) (residual : ℕ) {still far : ℕ} → still ≡ still_tiles parts → far ≡ farthest parts →
    number_line (frame ∷ length parts / 2 ∷ still ∷ far ∷ residual ∷ []) ≡ frame_line frame parts residual
unfolding frame_line
line frame parts residual s f = rw (s, f)

short : (a b c d e : ℕ) → a < 2 ^ 64 → b < 2 ^ 64 → c < 2 ^ 64 → d < 2 ^ 64 → e < 2 ^ 64 → length (number_line (a ∷ b ∷ c ∷ d ∷ e ∷ [])) ≤ 105
short a b c d e ha hb hc hd he =
    let most = 10 ^ 20 in
    line-length 19 (a ∷ b ∷ c ∷ d ∷ e ∷ [])
    (each-below most a (b ∷ c ∷ d ∷ e ∷ []) (omega arith)
    (each-below most b (c ∷ d ∷ e ∷ []) (omega arith)
    (each-below most c (d ∷ e ∷ []) (omega arith)
    (each-below most d (e ∷ []) (omega arith)
    (each-below most e [] (omega arith) (none-above most (omega arith)))))))

pub put_numbers-requires : goal.put_numbers-requires
put_numbers-requires c =
    let most = short c.args.frame (length c.args.vectors.now / 2) c.still_tiles.result c.farthest.result c.args.residual (search rules) (search rules) (search rules) (search rules) (search rules) in
    (search rules, omega (arith, most))

pub returns-clause-line : goal.returns-clause-line
returns-clause-line c =
    c.put_numbers.ensures ∙ ap (λ l. c.args.text.now ++ l) (line c.args.frame c.args.vectors.now c.args.residual c.still_tiles.ensures c.farthest.ensures)

pub returns-clause-short : goal.returns-clause-short
returns-clause-short c =
    let most = short c.args.frame (length c.args.vectors.now / 2) c.still_tiles.result c.farthest.result c.args.residual (search rules) (search rules) (search rules) (search rules) (search rules) in
    omega (arith, most, ap length c.put_numbers.ensures, length-append {A = ℕ})
