-- `tile_lines::back::backward`: the numbers are stored one after the other, each from the two folded sums.
use Rattle.std.specs.Prelude.{◌+◌, ◌-◌, ◌*◌, ◌≤◌}
use Rattle.tile_lines.specs.Back.Prelude.{refl, ◌∙◌, false, ℕ, arith, rules, nat_abs, of_bits, of_int, tab, joined_at, column_most}
use Rattle.sequences.specs.TabLaws.{Filled, fill_start, fill-turn, fill_done}
use Rattle.sequences.specs.Grid.{tab-ext}
use Rattle.tile_spectrum.specs.Lines.DoubleForms.{picked-line}
use Rattle.tile_lines.proofs.back.DoubleUnfolding.{back_at}
use Rattle.tile_lines.proofs.back.backward as of

abbrev invariant-loop-n : of.Tie.invariant-loop-n
invariant-loop-n z s t r₀ n₀ r n = Filled (joined_at s t) 16 n r₀ r

abbrev decreases-loop-n : of.Tie.decreases-loop-n
decreases-loop-n z s t r₀ n₀ r n = 16 - n

loop-again : of.Tie.Need-loop-n-preserved invariant-loop-n decreases-loop-n
loop-again c = fill-turn c.before.before.before.before.loop-n.invariant (omega arith) c.unfolded.ensures

returns : of.Tie.Need-returns invariant-loop-n decreases-loop-n
unfolding tab of_bits of_int
returns c g most e =
    let t = c.before.before in
    let s = t.before.before.before.before.before.before.before.before.before in
    let more : (k : ℕ) → nat_abs (g k) ≤ column_most false = λ k. omega (arith, most k) in
    fill_done c.before.loop-n.invariant (omega arith)
    ∙ tab-ext 16 _ _
    (back_at g (λ k. omega (arith, most k))
    (s.even-s.ensures.whole refl (λ k. g (2 * k)) (λ k. most (2 * k)) (picked-line 16 g e (λ k. 2 * k) (λ k. 2 * k) (λ k l. refl) (λ k l. omega arith)))
    (t.odd-t.ensures (λ k. g (2 * k + 1)) (λ k. more (2 * k + 1)) (picked-line 16 g e (λ k. 2 * k + 1) (λ k. 2 * k + 1) (λ k l. refl) (λ k l. omega arith))))

pub backward_spec : {M : Type 1} → of.Statement.statement M
backward_spec = of.Tie.close (of.Tie.spec
    invariant-loop-n decreases-loop-n
    (λ c. search rules) (λ c. search rules) (λ c. search rules) (λ c. search rules)
    (λ c. search rules) (λ c. search rules) (λ c. search rules) (λ c. search rules) (λ c κs. search rules)
    (λ c. search rules) (λ c. search rules) (λ c. search rules) (λ c. search rules)
    (λ c. search rules) (λ c. search rules) (λ c. search rules) (λ c. search rules) (λ c κs. search rules)
    (λ c. fill_start refl) (λ c κs. search rules) (λ c. search rules) (λ c. search rules) (λ c. search rules) (λ c. search rules)
    loop-again returns)
