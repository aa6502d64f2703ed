-- `tile_lines32_back::whole_odds`: the sums of both rows are stored by twos.
use Rattle.std.specs.Prelude.{◌+◌, ◌-◌, ◌*◌}
use Rattle.tile_lines32_back.specs.Prelude.{refl, ◌∙◌, ℕ, arith, rules, lit≤, get_or, ℤ, pos, w64, side32, odd_sum_of, picked}
use Rattle.sequences.specs.TabLaws.{Filled, fill_start, fill_done}
use Rattle.tile_spectrum.specs.Lines.Held.{held-is}
use Rattle.tile_lines32_back.proofs.BothHalves.{in_turn, twos-turn, even-at, odd-at, in-turn-are}
use Rattle.tile_lines32_back.proofs.PartSums.{parts-of}
use Rattle.tile_lines32_back.proofs.WholeParts.{whole-number, odd-line-most}
use Rattle.tile_lines32_back.proofs.whole_odds as of

abbrev invariant-loop-k : of.Tie.invariant-loop-k
invariant-loop-k h t0 t1 r₀ k₀ r k = Filled (in_turn (λ n. get_or t0 n (pos 0)) (λ n. get_or t1 n (pos 0))) 32 (2 * k) r₀ r

abbrev decreases-loop-k : of.Tie.decreases-loop-k
decreases-loop-k h t0 t1 r₀ k₀ r k = 16 - k

whole-joined-requires : of.Tie.Need-whole_joined-t0-requires invariant-loop-k decreases-loop-k
whole-joined-requires c κs =
    let d1 = c in
    let d0 = d1.before.before in
    let c1 = d0.before.before in
    let c0 = c1.before.before in
    let b1 = c0.before.before in
    let b0 = b1.before.before in
    let a1 = b0.before.before in
    let a0 = a1.before.before in
    let o1 = a0.before.before in
    let o0 = o1.before in
    let w = o0.before.requires in
    let e0 = o0.odd_places-o0.ensures ∙ picked 16 64 w.number w.is (λ k. 4 * k + 2 + 0) (λ k. 4 * k + 2 + 0) (λ k l. refl) (λ k l. omega arith) in
    let p0 = parts-of (λ k. w.number (4 * k + 2 + 0)) (λ k. w.most (4 * k + 2 + 0)) (lit≤ tt) e0 a0.even_cosines-a0.ensures b0.odd_cosines-b0.ensures c0.even_sines-c0.ensures d0.odd_sines-d0.ensures in
    p0

whole-joined-requires-2 : of.Tie.Need-whole_joined-t1-requires invariant-loop-k decreases-loop-k
whole-joined-requires-2 c κs =
    let t0 = c in
    let d1 = t0.before in
    let d0 = d1.before.before in
    let c1 = d0.before.before in
    let c0 = c1.before.before in
    let b1 = c0.before.before in
    let b0 = b1.before.before in
    let a1 = b0.before.before in
    let a0 = a1.before.before in
    let o1 = a0.before.before in
    let o0 = o1.before in
    let w = o0.before.requires in
    let e1 = o1.odd_places-o1.ensures ∙ picked 16 64 w.number w.is (λ k. 4 * k + 2 + 1) (λ k. 4 * k + 2 + 1) (λ k l. refl) (λ k l. omega arith) in
    let p1 = parts-of (λ k. w.number (4 * k + 2 + 1)) (λ k. w.most (4 * k + 2 + 1)) (lit≤ tt) e1 a1.even_cosines-a1.ensures b1.odd_cosines-b1.ensures c1.even_sines-c1.ensures d1.odd_sines-d1.ensures in
    p1

loop-again : of.Tie.Need-loop-k-preserved invariant-loop-k decreases-loop-k
loop-again c =
    let l = c.before.before in
    let t1 = l.before.before in
    let t0 = t1.before in
    let d1 = t0.before in
    let d0 = d1.before.before in
    let c1 = d0.before.before in
    let c0 = c1.before.before in
    let b1 = c0.before.before in
    let b0 = b1.before.before in
    let a1 = b0.before.before in
    let a0 = a1.before.before in
    let o1 = a0.before.before in
    let o0 = o1.before in
    let w = o0.before.requires in
    let e0 = o0.odd_places-o0.ensures ∙ picked 16 64 w.number w.is (λ k. 4 * k + 2 + 0) (λ k. 4 * k + 2 + 0) (λ k l. refl) (λ k l. omega arith) in
    let p0 = parts-of (λ k. w.number (4 * k + 2 + 0)) (λ k. w.most (4 * k + 2 + 0)) (lit≤ tt) e0 a0.even_cosines-a0.ensures b0.odd_cosines-b0.ensures c0.even_sines-c0.ensures d0.odd_sines-d0.ensures in
    let e1 = o1.odd_places-o1.ensures ∙ picked 16 64 w.number w.is (λ k. 4 * k + 2 + 1) (λ k. 4 * k + 2 + 1) (λ k l. refl) (λ k l. omega arith) in
    let p1 = parts-of (λ k. w.number (4 * k + 2 + 1)) (λ k. w.most (4 * k + 2 + 1)) (lit≤ tt) e1 a1.even_cosines-a1.ensures b1.odd_cosines-b1.ensures c1.even_sines-c1.ensures d1.odd_sines-d1.ensures in
    let m0 = odd-line-most (λ k. w.number (4 * k + 2 + 0)) (λ k. w.most (4 * k + 2 + 0)) (t0.whole_joined-t0.ensures p0) in
    let m1 = odd-line-most (λ k. w.number (4 * k + 2 + 1)) (λ k. w.most (4 * k + 2 + 1)) (t1.whole_joined-t1.ensures p1) in
    let k = l.before.loop-k.k in
    let a : ℕ → ℤ = λ n. get_or t0.whole_joined-t0.result n (pos 0) in
    let b : ℕ → ℤ = λ n. get_or t1.whole_joined-t1.result n (pos 0) in
    twos-turn l.before.loop-k.invariant l.loop-k-test.true (held-is w64 m0 k tt ∙ even-at a b k) (held-is w64 m1 k tt ∙ odd-at a b k)

returns : of.Tie.Need-returns invariant-loop-k decreases-loop-k
returns c w =
    let t1 = c.before.before in
    let t0 = t1.before in
    let d1 = t0.before in
    let d0 = d1.before.before in
    let c1 = d0.before.before in
    let c0 = c1.before.before in
    let b1 = c0.before.before in
    let b0 = b1.before.before in
    let a1 = b0.before.before in
    let a0 = a1.before.before in
    let o1 = a0.before.before in
    let o0 = o1.before in
    let e0 = o0.odd_places-o0.ensures ∙ picked 16 64 w.number w.is (λ k. 4 * k + 2 + 0) (λ k. 4 * k + 2 + 0) (λ k l. refl) (λ k l. omega arith) in
    let p0 = parts-of (λ k. w.number (4 * k + 2 + 0)) (λ k. w.most (4 * k + 2 + 0)) (lit≤ tt) e0 a0.even_cosines-a0.ensures b0.odd_cosines-b0.ensures c0.even_sines-c0.ensures d0.odd_sines-d0.ensures in
    let e1 = o1.odd_places-o1.ensures ∙ picked 16 64 w.number w.is (λ k. 4 * k + 2 + 1) (λ k. 4 * k + 2 + 1) (λ k l. refl) (λ k l. omega arith) in
    let p1 = parts-of (λ k. w.number (4 * k + 2 + 1)) (λ k. w.most (4 * k + 2 + 1)) (lit≤ tt) e1 a1.even_cosines-a1.ensures b1.odd_cosines-b1.ensures c1.even_sines-c1.ensures d1.odd_sines-d1.ensures in
    fill_done c.before.loop-k.invariant (omega arith)
    ∙ in-turn-are _ _ (λ p n. odd_sum_of side32 (λ k. w.number (4 * k + 2 + p)) n) (whole-number 16 _ (t0.whole_joined-t0.ensures p0)) (whole-number 16 _ (t1.whole_joined-t1.ensures p1))

pub whole_odds_spec : {M : Type 1} → of.Statement.statement M
whole_odds_spec = of.Tie.close (of.Tie.spec
    invariant-loop-k decreases-loop-k
    (λ c κs. search rules) (λ c κs. search rules) (λ c κs. search rules) (λ c κs. search rules) (λ c κs. search rules) (λ c κs. search rules)
    (λ c κs. search rules) (λ c κs. search rules) (λ c κs. search rules) (λ c κs. search rules)
    whole-joined-requires whole-joined-requires-2 (λ c. fill_start refl)
    (λ c. search rules) (λ c. search rules) (λ c. search rules) (λ c. search rules) (λ c. search rules) (λ c. search rules)
    (λ c. search rules) (λ c. search rules) (λ c. search rules) (λ c. search rules) (λ c. search rules) (λ c. search rules)
    (λ c. search rules)
    loop-again returns)
