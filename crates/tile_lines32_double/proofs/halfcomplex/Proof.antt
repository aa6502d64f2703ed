-- `tile_lines32_double::halfcomplex`: the places of both lines are stored by fours.
use Rattle.std.specs.Prelude.{◌+◌, ◌-◌, ◌*◌}
use Rattle.tile_lines32_double.specs.Prelude.{◌∙◌, arith, rules, side32, halfcomplex_of}
use Rattle.sequences.specs.TabLaws.{Filled, fill_start, fill_done}
use Rattle.tile_spectrum.specs.Lines.PairLines.{by_fours, fours-turn, fours-are}
use Rattle.tile_lines32_double.proofs.LongFolding.{sums_of, differences_of, line_of, sums_most, differences-most, even-line, odd-line}
use Rattle.tile_lines32_double.specs.Parts.{Halved}
use Rattle.tile_lines32_double.proofs.halfcomplex as of

abbrev invariant-loop-k : of.Tie.invariant-loop-k
invariant-loop-k x r₀ e0 e1 o0 o1 k₀ r k = Filled (by_fours e0 e1 o0 o1) 64 (4 * k) r₀ r

abbrev decreases-loop-k : of.Tie.decreases-loop-k
decreases-loop-k x r₀ e0 e1 o0 o1 k₀ r k = 16 - k

loop-holds : of.Tie.Need-loop-k-init invariant-loop-k decreases-loop-k
loop-holds c =
    let o0 = c.before.before.before.before.before in
    let d1 = o0.before.before.before.before.before in
    let c0 = d1.before.before.before.before.before.before in
    let a0 = c0.before.before.before.before.before.before.before.before in
    let e0 = a0.before.before.before.before.before in
    let a = e0.before.before.before.before.before in
    fill_start a.before.before.before.before.requires.1

loop-again : of.Tie.Need-loop-k-preserved invariant-loop-k decreases-loop-k
loop-again c =
    let o1 = c.before.before in
    let o0 = o1.before.before.before.before.before in
    let d1 = o0.before.before.before.before.before in
    let c0 = d1.before.before.before.before.before.before in
    let a0 = c0.before.before.before.before.before.before.before.before in
    let e1 = a0.before.before in
    let e0 = e1.before.before.before in
    fours-turn e0.even_of-e0.result e1.even_of-e1.result o0.joined-o0.result o1.joined-o1.result 16 c.before.loop-k.invariant c.loop-k-test.true

returns : of.Tie.Need-returns invariant-loop-k decreases-loop-k
returns c =
    let o1 = c.before.before in
    let o0 = o1.before.before.before.before.before in
    let d1 = o0.before.before.before.before.before in
    let d0 = d1.before.before in
    let c1 = d0.before.before in
    let c0 = c1.before.before in
    let b1 = c0.before.before in
    let b0 = b1.before.before in
    let a1 = b0.before.before in
    let a0 = a1.before.before in
    let e1 = a0.before.before in
    let e0 = e1.before.before.before in
    let b = e0.before.before.before in
    let a = b.before.before in
    let t = a.before.before in
    let s = t.before in
    let m = s.before.requires.0 in
    let x = s.before.args.x.now in
    let z = differences_of x in
    let most = differences-most m in
    let is = t.differences-t.ensures in
    let sums : Halved (sums_of x) a.sums_again-a.result b.differences_again-b.result = record { most = sums_most m; sums = a.sums_again-a.ensures (sums_of x) (sums_most m) s.sums-s.ensures; differences = b.differences_again-b.ensures (sums_of x) (sums_most m) s.sums-s.ensures } in
    fill_done c.before.loop-k.invariant (omega arith)
    ∙ fours-are 16 (λ p. halfcomplex_of side32 (line_of x p))
    (e0.even_of-e0.ensures (sums_of x) sums ∙ even-line x 0)
    (e1.even_of-e1.ensures (sums_of x) sums ∙ even-line x 1)
    (o0.joined-o0.ensures (λ n. z (2 * n + 0)) (record { most = λ n. most (2 * n + 0); even_cosines = a0.even_cosines-a0.ensures z most is; odd_cosines = b0.odd_cosines-b0.ensures z most is; even_sines = c0.even_sines-c0.ensures z most is; odd_sines = d0.odd_sines-d0.ensures z most is }) ∙ odd-line x 0)
    (o1.joined-o1.ensures (λ n. z (2 * n + 1)) (record { most = λ n. most (2 * n + 1); even_cosines = a1.even_cosines-a1.ensures z most is; odd_cosines = b1.odd_cosines-b1.ensures z most is; even_sines = c1.even_sines-c1.ensures z most is; odd_sines = d1.odd_sines-d1.ensures z most is }) ∙ odd-line x 1)

pub halfcomplex_spec : {M : Type 1} → of.Statement.statement M
halfcomplex_spec = of.Tie.close (of.Tie.spec
    invariant-loop-k decreases-loop-k
    (λ c κs. search rules) (λ c κs. search rules) (λ c κs. search rules) (λ c κs. search rules)
    (λ c κs. search rules) (λ c κs. search rules) (λ c κs. search rules) (λ c κs. search rules)
    (λ c κs. search rules) (λ c κs. search rules) (λ c κs. search rules) (λ c κs. search rules)
    (λ c κs. search rules) (λ c κs. search rules) (λ c κs. search rules) (λ c κs. search rules)
    loop-holds
    (λ c. search rules) (λ c. search rules) (λ c. search rules) (λ c. search rules) (λ c. search rules)
    (λ c. search rules) (λ c. search rules) (λ c. search rules) (λ c. search rules) (λ c. search rules) (λ c. search rules)
    (λ c. search rules) (λ c. search rules) (λ c. search rules) (λ c. search rules) (λ c. search rules) (λ c. search rules)
    (λ c. search rules) (λ c. search rules) (λ c. search rules) (λ c. search rules) (λ c. search rules) (λ c. search rules)
    (λ c. search rules) (λ c. search rules) loop-again returns)
