-- Two samples of one column a turn, each by where the row starts.
use Rattle.std.proofs.Common.{◌≡◌, ◌+◌, ◌*◌, ◌/◌, ◌%◌, ◌<◌, ℕ, List, set, get_or, ap, arith, rules}
use Rattle.algebra.specs.Prelude.{w64, to_z, of_z, to_z-of_z}
use Rattle.std.proofs.lemmas.List.{length-replicate}
use Rattle.sequences.specs.TabLaws.{Filled, fill_start, fill-turn, fill_done}
use Rattle.merge_view.proofs.edge_pair.Goals as goal

-- a turn that stores two entries
turn : {f : ℕ → ℕ} {n a b : ℕ} {l r : List ℕ} (j : ℕ) → Filled f n (2 * j) l r → 2 * j + 1 < n → a ≡ f (2 * j) → b ≡ f (2 * j + 1) → Filled f n (2 * (j + 1)) l (set (set r (2 * j) a) (2 * j + 1) b)
turn j w h p q = let next : 2 * (j + 1) ≡ 2 * j + 1 + 1 = omega arith in rw next (fill-turn (fill-turn w (omega arith) p) h q)

pub loop-j-init : goal.loop-j-init
loop-j-init g c = fill_start (length-replicate _ _)

pub loop-j-preserved : goal.loop-j-preserved
loop-j-preserved g c =
    let j = c.loop-j.j in
    let read : to_z w64 (of_z w64 c.along.result) ≡ c.along.result = search rules in
    let even : 2 * j / 2 ≡ j = omega arith in
    let odd : (2 * j + 1) / 2 ≡ j = omega arith in
    let rest : (2 * j + 1) % 2 ≡ 1 = omega arith in
    let none : 2 * j % 2 ≡ 0 = omega arith in
    turn j c.loop-j.invariant (omega arith)
    (rw (c.inside.ensures.0, read, c.along.ensures, even, none) (ap (λ n. get_or c.args.samples.now n 0) (omega arith)))
    (rw (c.inside.ensures.0, read, c.along.ensures, odd, rest))

pub returns : goal.returns
returns g c = rw (← to_z-of_z c.ranges.x) (fill_done c.loop-j.invariant (omega arith))
