-- `tile_lines32_back::backward`: the even and the odd places apart, and both halves of the column from their sums.
use Rattle.std.specs.Prelude.{◌+◌, ◌-◌, ◌*◌, ◌≤◌}
use Rattle.tile_lines32_back.specs.Prelude.{refl, ◌∙◌, true, false, ℕ, arith, rules, lit≤, get_or, nat_abs, nan, binary64, of_int, add, sub, side32, backward_of, fold_most, long_column_most, picked}
use Rattle.sequences.specs.TabLaws.{Filled, fill_start, fill-turn, fill_done}
use Rattle.tile_lines32_back.proofs.BothHalves.{Both, both-start, both-turn, both-done, column-low, column-high}
use Rattle.tile_lines32_back.proofs.PartSums.{parts-of}
use Rattle.tile_lines32_back.proofs.backward as of

abbrev invariant-loop-k : of.Tie.invariant-loop-k
invariant-loop-k z e₀ o₀ k₀ e o k = Filled (λ k. get_or z (2 * k) nan) 16 k e₀ e × Filled (λ k. get_or z (2 * k + 1) nan) 16 k o₀ o

abbrev decreases-loop-k : of.Tie.decreases-loop-k
decreases-loop-k z e₀ o₀ k₀ e o k = 16 - k

abbrev invariant-loop-n : of.Tie.invariant-loop-n
invariant-loop-n z s t r₀ n₀ r n = Both nan (λ n. add binary64 (get_or s n nan) (get_or t n nan)) (λ n. sub binary64 (get_or s n nan) (get_or t n nan)) 16 n r

abbrev decreases-loop-n : of.Tie.decreases-loop-n
decreases-loop-n z s t r₀ n₀ r n = 16 - n

loop-again : of.Tie.Need-loop-k-preserved invariant-loop-k decreases-loop-k invariant-loop-n decreases-loop-n
loop-again c =
    let l = c.before.before.before in
    (fill-turn l.loop-k.invariant.0 (omega arith) refl, fill-turn l.loop-k.invariant.1 (omega arith) refl)

loop2-again : of.Tie.Need-loop-n-preserved invariant-loop-k decreases-loop-k invariant-loop-n decreases-loop-n
loop2-again c = both-turn c.before.loop-n.invariant c.loop-n-test.true refl refl

returns : of.Tie.Need-returns invariant-loop-k decreases-loop-k invariant-loop-n decreases-loop-n
returns c z most e =
    let t = c.before.before in
    let d = t.before in
    let u = d.before.before in
    let b = u.before.before in
    let a = b.before.before in
    let s = a.before.before in
    let l = s.before.before.before in
    let more : (k : ℕ) → nat_abs (z k) ≤ long_column_most false true = λ k. omega (arith, most k) in
    let less : (k : ℕ) → nat_abs (z k) ≤ fold_most false = λ k. omega (arith, most k) in
    let p = s.backward-s.ensures (λ k. z (2 * k)) (λ k. less (2 * k)) (fill_done l.loop-k.invariant.0 (omega arith) ∙ picked 16 32 z e (λ k. 2 * k) (λ k. 2 * k) (λ k l. refl) (λ k l. omega arith)) in
    let o = fill_done l.loop-k.invariant.1 (omega arith) ∙ picked 16 32 z e (λ k. 2 * k + 1) (λ k. 2 * k + 1) (λ k l. refl) (λ k l. omega arith) in
    let w = parts-of (λ k. z (2 * k + 1)) (λ k. more (2 * k + 1)) (lit≤ tt) o a.even_cosines-a.ensures b.odd_cosines-b.ensures u.even_sines-c.ensures d.odd_sines-d.ensures in
    let q = t.joined-t.ensures w in
    both-done c.before.loop-n.invariant (omega arith) (λ n. of_int binary64 (backward_of side32 z n)) (column-low z more p q) (column-high z more p q)

pub backward_spec : {M : Type 1} → of.Statement.statement M
backward_spec = of.Tie.close (of.Tie.spec
    invariant-loop-k decreases-loop-k invariant-loop-n decreases-loop-n (λ c. (fill_start refl, fill_start refl))
    (λ c. search rules) (λ c. search rules) (λ c. search rules) (λ c. search rules) (λ c. search rules) (λ c. search rules)
    (λ c. search rules) (λ c. search rules) (λ c. search rules) (λ c. search rules) (λ c. search rules) (λ c. search rules)
    (λ c. search rules)
    loop-again
    (λ c κs. search rules) (λ c κs. search rules) (λ c κs. search rules) (λ c κs. search rules) (λ c κs. search rules) (λ c κs. search rules)
    (λ c. both-start refl)
    (λ c. search rules) (λ c. search rules) (λ c. search rules) (λ c. search rules) (λ c. search rules) (λ c. search rules)
    (λ c. search rules) (λ c. search rules) (λ c. search rules) (λ c. search rules) (λ c. search rules) (λ c. search rules)
    (λ c. search rules) (λ c. search rules) (λ c. search rules)
    loop2-again returns)
