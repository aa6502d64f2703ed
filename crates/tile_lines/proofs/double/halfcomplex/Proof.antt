-- `tile_lines::double::halfcomplex`: the places of both lines are stored by fours.
use Rattle.std.specs.Prelude.{◌-◌, ◌*◌}
use Rattle.tile_lines.specs.Double.Prelude.{◌∙◌, arith, rules, halfcomplex}
use Rattle.sequences.specs.TabLaws.{Filled, fill_start, fill_done}
use Rattle.tile_spectrum.specs.Lines.PairLines.{by_fours, fours-turn, fours-are}
use Rattle.tile_lines.proofs.double.PairFolding.{sums_of, differences_of, line_of, sums_most, differences-most, even-line, odd-line}
use Rattle.tile_lines.proofs.double.halfcomplex as of

abbrev invariant-loop-k : of.Tie.invariant-loop-k
invariant-loop-k x r₀ e0 e1 o0 o1 k₀ r k = Filled (by_fours e0 e1 o0 o1) 32 (4 * k) r₀ r

abbrev decreases-loop-k : of.Tie.decreases-loop-k
decreases-loop-k x r₀ e0 e1 o0 o1 k₀ r k = 8 - k

loop-again : of.Tie.Need-loop-k-preserved invariant-loop-k decreases-loop-k
loop-again c =
    let o1 = c.before.before in
    let o0 = o1.before.before in
    let e1 = o0.before.before in
    let e0 = e1.before.before in
    fours-turn e0.even_of-e0.result e1.even_of-e1.result o0.odd_of-o0.result o1.odd_of-o1.result 8 c.before.loop-k.invariant c.loop-k-test.true

returns : of.Tie.Need-returns invariant-loop-k decreases-loop-k
returns c =
    let o1 = c.before.before in
    let o0 = o1.before.before in
    let e1 = o0.before.before in
    let e0 = e1.before.before in
    let t = e0.before.before in
    let s = t.before in
    let m = s.before.requires.0 in
    let x = s.before.args.x.now in
    fill_done c.before.loop-k.invariant (omega arith)
    ∙ fours-are 8 (λ p. halfcomplex (line_of x p))
    (e0.even_of-e0.ensures (sums_of x) (sums_most m) s.sums-s.ensures ∙ even-line x 0)
    (e1.even_of-e1.ensures (sums_of x) (sums_most m) s.sums-s.ensures ∙ even-line x 1)
    (o0.odd_of-o0.ensures (differences_of x) (differences-most m) t.differences-t.ensures ∙ odd-line x 0)
    (o1.odd_of-o1.ensures (differences_of x) (differences-most m) t.differences-t.ensures ∙ odd-line x 1)

pub halfcomplex_spec : {M : Type 1} → of.Statement.statement M
halfcomplex_spec = of.Tie.close (of.Tie.spec
    invariant-loop-k decreases-loop-k (λ c κs. search rules) (λ c κs. search rules) (λ c κs. search rules) (λ c κs. search rules)
    (λ c κs. search rules) (λ c κs. search rules) (λ c. fill_start (omega arith))
    (λ c. search rules) (λ c. search rules) (λ c. search rules) (λ c. search rules) (λ c. search rules)
    (λ c. search rules) (λ c. search rules) (λ c. search rules) (λ c. search rules) (λ c. search rules) (λ c. search rules)
    (λ c. search rules) (λ c. search rules) (λ c. search rules) (λ c. search rules) (λ c. search rules) (λ c. search rules)
    (λ c. search rules) (λ c. search rules) (λ c. search rules) (λ c. search rules) (λ c. search rules) (λ c. search rules)
    (λ c. search rules) (λ c. search rules) loop-again returns)
