-- `tile_lines::back::whole_halves`: two numbers of either half are stored at a time.
use Rattle.std.specs.Prelude.{◌≡◌, ◌+◌, ◌*◌, ◌-◌}
use Rattle.tile_lines.specs.Back.Prelude.{◌∙◌, arith, rules, pos, w64, to_z, of_z, sum_z, tab, side16, half_sum, odd_sum_of, even_half_of}
use Rattle.tile_lines.proofs.back.HalfStores.{by_halves, Halved, halved-start, halves-turn, halved-done, halves_are}
use Rattle.tile_lines.proofs.back.WholeHalves.{whole_plus, whole_minus, even_whole, odd_whole, whole-half-at}
use Rattle.tile_lines.proofs.back.whole_halves as of

abbrev invariant-loop-n : of.Tie.invariant-loop-n
invariant-loop-n h x₀ s0 s1 t0 t1 n₀ x n = Halved (pos 0) (by_halves whole_plus whole_minus s0 s1 t0 t1) n x

abbrev decreases-loop-n : of.Tie.decreases-loop-n
decreases-loop-n h x₀ s0 s1 t0 t1 n₀ x n = 8 - n

whole-sum-requires : of.Tie.Need-whole_sum-requires invariant-loop-n decreases-loop-n
whole-sum-requires c κs =
    let l = c in
    let t1 = l.before.before in
    let t0 = t1.before in
    let s1 = t0.before in
    let s0 = s1.before in
    let w = s0.before.requires.0 in (
      even_whole (λ k. w.number (4 * k + 0)) (λ k. w.most (4 * k + 0)) (s0.even_of-s0.ensures w.number w.most w.is) l.before.loop-n.n l.loop-n-test.true,
      odd_whole (λ k. w.number (4 * k + 2 + 0)) (λ k. w.most (4 * k + 2 + 0)) (t0.odd_of-t0.ensures w.number w.most w.is) l.before.loop-n.n l.loop-n-test.true,
    )

whole-sum-requires-2 : of.Tie.Need-whole_sum-requires-in-loop-n invariant-loop-n decreases-loop-n
whole-sum-requires-2 c κs =
    let l = c.before in
    let t1 = l.before.before in
    let t0 = t1.before in
    let s1 = t0.before in
    let s0 = s1.before in
    let w = s0.before.requires.0 in (
      even_whole (λ k. w.number (4 * k + 1)) (λ k. w.most (4 * k + 1)) (s1.even_of-s1.ensures w.number w.most w.is) l.before.loop-n.n l.loop-n-test.true,
      odd_whole (λ k. w.number (4 * k + 2 + 1)) (λ k. w.most (4 * k + 2 + 1)) (t1.odd_of-t1.ensures w.number w.most w.is) l.before.loop-n.n l.loop-n-test.true,
    )

whole-difference-requires : of.Tie.Need-whole_difference-requires invariant-loop-n decreases-loop-n
whole-difference-requires c κs =
    let l = c.before.before in
    let t1 = l.before.before in
    let t0 = t1.before in
    let s1 = t0.before in
    let s0 = s1.before in
    let w = s0.before.requires.0 in (
      even_whole (λ k. w.number (4 * k + 0)) (λ k. w.most (4 * k + 0)) (s0.even_of-s0.ensures w.number w.most w.is) l.before.loop-n.n l.loop-n-test.true,
      odd_whole (λ k. w.number (4 * k + 2 + 0)) (λ k. w.most (4 * k + 2 + 0)) (t0.odd_of-t0.ensures w.number w.most w.is) l.before.loop-n.n l.loop-n-test.true,
    )

whole-difference-requires-2 : of.Tie.Need-whole_difference-requires-in-loop-n invariant-loop-n decreases-loop-n
whole-difference-requires-2 c κs =
    let l = c.before.before.before in
    let t1 = l.before.before in
    let t0 = t1.before in
    let s1 = t0.before in
    let s0 = s1.before in
    let w = s0.before.requires.0 in (
      even_whole (λ k. w.number (4 * k + 1)) (λ k. w.most (4 * k + 1)) (s1.even_of-s1.ensures w.number w.most w.is) l.before.loop-n.n l.loop-n-test.true,
      odd_whole (λ k. w.number (4 * k + 2 + 1)) (λ k. w.most (4 * k + 2 + 1)) (t1.odd_of-t1.ensures w.number w.most w.is) l.before.loop-n.n l.loop-n-test.true,
    )

loop-again : of.Tie.Need-loop-n-preserved invariant-loop-n decreases-loop-n
loop-again c =
    let d0 = c.before in
    let a1 = d0.before in
    let a0 = a1.before in
    let l = a0.before in
    let t1 = l.before.before in
    let t0 = t1.before in
    let s1 = t0.before in
    let s0 = s1.before in
    let held0 : to_z w64 (of_z w64 a0.whole_sum.result) ≡ a0.whole_sum.result = search rules in
    let held1 : to_z w64 (of_z w64 a1.whole_sum-in-loop-n.result) ≡ a1.whole_sum-in-loop-n.result = search rules in
    let held2 : to_z w64 (of_z w64 d0.whole_difference.result) ≡ d0.whole_difference.result = search rules in
    let held3 : to_z w64 (of_z w64 c.whole_difference-in-loop-n.result) ≡ c.whole_difference-in-loop-n.result = search rules in
    halves-turn (pos 0) whole_plus whole_minus s0.even_of-s0.result s1.even_of-s1.result t0.odd_of-t0.result t1.odd_of-t1.result l.before.loop-n.invariant l.loop-n-test.true
    (held0 ∙ a0.whole_sum.ensures) (held1 ∙ a1.whole_sum-in-loop-n.ensures) (held2 ∙ d0.whole_difference.ensures) (held3 ∙ c.whole_difference-in-loop-n.ensures)

returns : of.Tie.Need-returns invariant-loop-n decreases-loop-n
unfolding tab sum_z odd_sum_of even_half_of side16
returns c w =
    let t1 = c.before.before in
    let t0 = t1.before in
    let s1 = t0.before in
    let s0 = s1.before in
    halved-done c.before.loop-n.invariant (omega arith)
    ∙ halves_are whole_plus whole_minus s0.even_of-s0.result s1.even_of-s1.result t0.odd_of-t0.result t1.odd_of-t1.result (λ p n. half_sum (λ k. w.number (2 * k + p)) n)
    (whole-half-at (λ k. w.number (2 * k + 0)) (λ k. w.most (2 * k + 0)) (s0.even_of-s0.ensures w.number w.most w.is) (t0.odd_of-t0.ensures w.number w.most w.is))
    (whole-half-at (λ k. w.number (2 * k + 1)) (λ k. w.most (2 * k + 1)) (s1.even_of-s1.ensures w.number w.most w.is) (t1.odd_of-t1.ensures w.number w.most w.is))

pub whole_halves_spec : {M : Type 1} → of.Statement.statement M
whole_halves_spec = of.Tie.close (of.Tie.spec
    invariant-loop-n decreases-loop-n (λ c κs. search rules) (λ c κs. search rules) (λ c κs. search rules) (λ c κs. search rules) (λ c. halved-start (omega arith))
    (λ c. search rules) (λ c. search rules) (λ c. search rules) (λ c. search rules) whole-sum-requires (λ c. search rules) (λ c. search rules)
    (λ c. search rules) (λ c. search rules) (λ c. search rules) (λ c. search rules) (λ c. search rules) whole-sum-requires-2 (λ c. search rules)
    (λ c. search rules) (λ c. search rules) (λ c. search rules) (λ c. search rules) (λ c. search rules) (λ c. search rules) (λ c. search rules)
    whole-difference-requires (λ c. search rules) (λ c. search rules) (λ c. search rules) (λ c. search rules) (λ c. search rules) (λ c. search rules)
    (λ c. search rules) (λ c. search rules) whole-difference-requires-2 (λ c. search rules) (λ c. search rules) (λ c. search rules) (λ c. search rules)
    (λ c. search rules) (λ c. search rules) loop-again returns)
