-- `tile_lines32_back::odds`: the sums of both rows are stored by twos.
use Rattle.std.specs.Prelude.{◌+◌, ◌-◌, ◌*◌}
use Rattle.tile_lines32_back.specs.Prelude.{refl, ◌∙◌, ℕ, arith, rules, lit≤, get_or, Float, nan, binary64, of_int, side32, odd_sum_of, picked}
use Rattle.sequences.specs.TabLaws.{Filled, fill_start, fill_done}
use Rattle.tile_lines32_back.proofs.BothHalves.{in_turn, twos-turn, even-at, odd-at, in-turn-are, number}
use Rattle.tile_lines32_back.proofs.PartSums.{parts-of}
use Rattle.tile_lines32_back.proofs.odds as of

abbrev invariant-loop-k : of.Tie.invariant-loop-k
invariant-loop-k h t0 t1 r₀ k₀ r k = Filled (in_turn (λ n. get_or t0 n nan) (λ n. get_or t1 n nan)) 32 (2 * k) r₀ r

abbrev decreases-loop-k : of.Tie.decreases-loop-k
decreases-loop-k h t0 t1 r₀ k₀ r k = 16 - k

loop-again : of.Tie.Need-loop-k-preserved invariant-loop-k decreases-loop-k
loop-again c =
    let t1 = c.before.before in
    let t0 = t1.before in
    let a : ℕ → Float = λ n. get_or t0.joined-t0.result n nan in
    let b : ℕ → Float = λ n. get_or t1.joined-t1.result n nan in
    twos-turn c.before.loop-k.invariant c.loop-k-test.true (even-at a b c.before.loop-k.k) (odd-at a b c.before.loop-k.k)

returns : of.Tie.Need-returns invariant-loop-k decreases-loop-k
returns c z most e =
    let t1 = c.before.before in
    let t0 = t1.before in
    let d1 = t0.before in
    let d0 = d1.before.before in
    let c1 = d0.before.before in
    let c0 = c1.before.before in
    let b1 = c0.before.before in
    let b0 = b1.before.before in
    let a1 = b0.before.before in
    let a0 = a1.before.before in
    let o1 = a0.before.before in
    let o0 = o1.before in
    let e0 = o0.odd_places-o0.ensures ∙ picked 16 64 z e (λ k. 4 * k + 2 + 0) (λ k. 4 * k + 2 + 0) (λ k l. refl) (λ k l. omega arith) in
    let e1 = o1.odd_places-o1.ensures ∙ picked 16 64 z e (λ k. 4 * k + 2 + 1) (λ k. 4 * k + 2 + 1) (λ k l. refl) (λ k l. omega arith) in
    let p0 = parts-of (λ k. z (4 * k + 2 + 0)) (λ k. most (4 * k + 2 + 0)) (lit≤ tt) e0 a0.even_cosines-a0.ensures b0.odd_cosines-b0.ensures c0.even_sines-c0.ensures d0.odd_sines-d0.ensures in
    let p1 = parts-of (λ k. z (4 * k + 2 + 1)) (λ k. most (4 * k + 2 + 1)) (lit≤ tt) e1 a1.even_cosines-a1.ensures b1.odd_cosines-b1.ensures c1.even_sines-c1.ensures d1.odd_sines-d1.ensures in
    fill_done c.before.loop-k.invariant (omega arith)
    ∙ in-turn-are _ _ (λ p n. of_int binary64 (odd_sum_of side32 (λ k. z (4 * k + 2 + p)) n)) (number 16 _ (t0.joined-t0.ensures p0)) (number 16 _ (t1.joined-t1.ensures p1))

pub odds_spec : {M : Type 1} → of.Statement.statement M
odds_spec = of.Tie.close (of.Tie.spec
    invariant-loop-k decreases-loop-k
    (λ c κs. search rules) (λ c κs. search rules) (λ c κs. search rules) (λ c κs. search rules) (λ c κs. search rules) (λ c κs. search rules)
    (λ c κs. search rules) (λ c κs. search rules) (λ c κs. search rules) (λ c κs. search rules) (λ c κs. search rules) (λ c κs. search rules)
    (λ c. fill_start refl)
    (λ c. search rules) (λ c. search rules) (λ c. search rules) (λ c. search rules) (λ c. search rules) (λ c. search rules)
    (λ c. search rules) (λ c. search rules) (λ c. search rules) (λ c. search rules) (λ c. search rules) (λ c. search rules)
    (λ c. search rules)
    loop-again returns)
