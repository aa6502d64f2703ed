-- `tile_lines::back::halves_of`: two numbers of either half are stored at a time.
use Rattle.std.specs.Prelude.{◌-◌, ◌/◌, ◌%◌, ◌≤◌}
use Rattle.tile_lines.specs.Back.Prelude.{refl, ◌∙◌, false, ℕ, ℤ, arith, rules, nat_abs, nan, binary64, of_int, add, sub, sum_z, tab, side16, half_sum, column_most, odd_sum_of, even_half_of}
use Rattle.tile_lines.proofs.back.HalfStores.{by_halves, Halved, halved-start, halves-turn, halved-done, halves_are}
use Rattle.tile_lines.proofs.back.DoubleUnfolding.{half-at}
use Rattle.tile_lines.proofs.back.halves_of as of

abbrev invariant-loop-n : of.Tie.invariant-loop-n
invariant-loop-n h s0 s1 t0 t1 x₀ n₀ x n = Halved nan (by_halves (add binary64) (sub binary64) s0 s1 t0 t1) n x

abbrev decreases-loop-n : of.Tie.decreases-loop-n
decreases-loop-n h s0 s1 t0 t1 x₀ n₀ x n = 8 - n

loop-again : of.Tie.Need-loop-n-preserved invariant-loop-n decreases-loop-n
loop-again c =
    let t1 = c.before.before in
    let t0 = t1.before in
    let s1 = t0.before in
    let s0 = s1.before in
    halves-turn nan (add binary64) (sub binary64) s0.even_of-s0.result s1.even_of-s1.result t0.odd_of-t0.result t1.odd_of-t1.result c.before.loop-n.invariant c.loop-n-test.true refl refl refl refl

returns : of.Tie.Need-returns invariant-loop-n decreases-loop-n
unfolding tab sum_z odd_sum_of even_half_of side16
returns c g most e =
    let t1 = c.before.before in
    let t0 = t1.before in
    let s1 = t0.before in
    let s0 = s1.before in
    let z : ℕ → ℤ = λ l. g (l % 2) (l / 2) in
    let more : (l : ℕ) → nat_abs (z l) ≤ column_most false = λ l. omega (arith, most (l % 2) (l / 2)) in
    halved-done c.before.loop-n.invariant (omega arith)
    ∙ halves_are (add binary64) (sub binary64) s0.even_of-s0.result s1.even_of-s1.result t0.odd_of-t0.result t1.odd_of-t1.result (λ p n. of_int binary64 (half_sum (g p) n))
    (half-at (g 0) (λ k. omega (arith, most 0 k)) (s0.even_of-s0.ensures z more e) (t0.odd_of-t0.ensures z more e))
    (half-at (g 1) (λ k. omega (arith, most 1 k)) (s1.even_of-s1.ensures z more e) (t1.odd_of-t1.ensures z more e))

pub halves_of_spec : {M : Type 1} → of.Statement.statement M
halves_of_spec = of.Tie.close (of.Tie.spec
    invariant-loop-n decreases-loop-n
    (λ c κs. search rules) (λ c κs. search rules) (λ c κs. search rules) (λ c κs. search rules) (λ c. halved-start refl) (λ c. search rules)
    (λ c. search rules) (λ c. search rules) (λ c. search rules) (λ c. search rules) (λ c. search rules) (λ c. search rules) (λ c. search rules)
    (λ c. search rules) (λ c. search rules) (λ c. search rules) (λ c. search rules) (λ c. search rules) (λ c. search rules) (λ c. search rules)
    (λ c. search rules) (λ c. search rules) (λ c. search rules) (λ c. search rules) (λ c. search rules) (λ c. search rules) (λ c. search rules)
    (λ c. search rules) (λ c. search rules) (λ c. search rules) (λ c. search rules) (λ c. search rules) (λ c. search rules) (λ c. search rules)
    (λ c. search rules) (λ c. search rules) (λ c. search rules) (λ c. search rules) loop-again returns)
