-- `tile_lines32_back::halves`: both halves of two rows from the sums of their even and of their odd places.
use Rattle.std.specs.Prelude.{◌-◌, ◌*◌, ◌/◌, ◌%◌}
use Rattle.tile_lines32_back.specs.Prelude.{refl, ◌∙◌, arith, rules, get_or, nan, binary64, of_int, add, sub, side32, half_sum_of}
use Rattle.tile_lines32_back.proofs.BothHalves.{Both, both-start, both-turn, both-done, rows, row-evens, row-odds, row_low, row-high}
use Rattle.tile_lines32_back.proofs.halves as of

abbrev invariant-loop-l : of.Tie.invariant-loop-l
invariant-loop-l h x₀ s t l₀ x l = Both nan (λ l. add binary64 (get_or s l nan) (get_or t l nan)) (λ l. sub binary64 (get_or s l nan) (get_or t l nan)) 32 l x

abbrev decreases-loop-l : of.Tie.decreases-loop-l
decreases-loop-l h x₀ s t l₀ x l = 32 - l

loop-again : of.Tie.Need-loop-l-preserved invariant-loop-l decreases-loop-l
loop-again c = both-turn c.before.loop-l.invariant c.loop-l-test.true refl refl

returns : of.Tie.Need-returns invariant-loop-l decreases-loop-l
returns c =
    let t = c.before.before in
    let s = t.before in
    let e = s.before.before in
    record {
      long = c.before.loop-l.invariant.same;
      is = λ g most k.
          let p = s.halves_of-s.ensures (λ p k. g p (2 * k)) (λ p k. omega (arith, most p (2 * k))) (e.evens-e.ensures (rows g) (λ l. omega (arith, most (l % 2) (l / 2))) k ∙ row-evens g) in
          let q = t.odds-t.ensures (rows g) (λ l. most (l % 2) (l / 2)) k ∙ row-odds g in
          both-done c.before.loop-l.invariant (omega arith) (λ l. of_int binary64 (half_sum_of side32 (g (l % 2)) (l / 2))) (row_low g most p q) (row-high g most p q);
    }

pub halves_spec : {M : Type 1} → of.Statement.statement M
halves_spec = of.Tie.close (of.Tie.spec
    invariant-loop-l decreases-loop-l (λ c κs. search rules) (λ c κs. search rules) (λ c κs. search rules) (λ c. both-start (omega arith))
    (λ c. search rules) (λ c. search rules) (λ c. search rules) (λ c. search rules) (λ c. search rules) (λ c. search rules)
    (λ c. search rules) (λ c. search rules) (λ c. search rules) (λ c. search rules) (λ c. search rules) (λ c. search rules)
    (λ c. search rules) (λ c. search rules) (λ c. search rules)
    loop-again returns)
