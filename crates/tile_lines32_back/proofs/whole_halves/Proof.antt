-- `tile_lines32_back::whole_halves`: both halves of two rows from the sums of their even and of their odd places.
use Rattle.std.specs.Prelude.{◌+◌, ◌-◌, ◌*◌, ◌/◌, ◌%◌, ◌+ℤ◌, ◌-ℤ◌}
use Rattle.algebra.specs.Prelude.{ap₂, ◌∙◌, arith, rules, get_or, pos, w64, to_z-of_z}
use Rattle.algebra.specs.Bound.{add-fits, sub-fits}
use Rattle.tile_lines32_back.specs.Prelude.{side32, half_sum_of}
use Rattle.tile_spectrum.specs.Lines.Held.{held-is, held-most}
use Rattle.tile_lines32_back.proofs.BothHalves.{Both, both-start, both-turn, both-done}
use Rattle.tile_lines32_back.proofs.WholeParts.{evens_row, even-sums-most, odd-sums-most, whole-low, whole-high}
use Rattle.tile_lines32_back.proofs.whole_halves as of

abbrev invariant-loop-l : of.Tie.invariant-loop-l
invariant-loop-l h x₀ s t l₀ x l = Both (pos 0) (λ l. get_or s l (pos 0) +ℤ get_or t l (pos 0)) (λ l. get_or s l (pos 0) -ℤ get_or t l (pos 0)) 32 l x

abbrev decreases-loop-l : of.Tie.decreases-loop-l
decreases-loop-l h x₀ s t l₀ x l = 32 - l

whole-halves-of-requires : of.Tie.Need-whole_halves_of-a-requires invariant-loop-l decreases-loop-l
whole-halves-of-requires c κs = let e = c.before in let w = e.before.requires.0 in evens_row w.number w.most (e.evens-e.ensures w.number w.most w.is)

whole-odds-requires : of.Tie.Need-whole_odds-b-requires invariant-loop-l decreases-loop-l
whole-odds-requires c κs = c.before.before.before.requires.0

add-x : of.Tie.Need-overflow_add-x invariant-loop-l decreases-loop-l
add-x c =
    let k = c.before.before in
    let t = k.before.before in
    let s = t.before in
    let e = s.before.before in
    let w = e.before.requires.0 in
    let p = s.whole_halves_of-a.ensures (evens_row w.number w.most (e.evens-e.ensures w.number w.most w.is)) in
    let q = t.whole_odds-b.ensures w in
    add-fits w64 _ _ _ _ (held-most w64 (even-sums-most w.number w.most p q) k.before.loop-l.l tt) (held-most w64 (odd-sums-most w.number w.most p q) k.before.loop-l.l tt) tt

sub-x : of.Tie.Need-overflow_sub-x invariant-loop-l decreases-loop-l
sub-x c =
    let k = c.before.before.before.before in
    let t = k.before.before in
    let s = t.before in
    let e = s.before.before in
    let w = e.before.requires.0 in
    let p = s.whole_halves_of-a.ensures (evens_row w.number w.most (e.evens-e.ensures w.number w.most w.is)) in
    let q = t.whole_odds-b.ensures w in
    sub-fits w64 _ _ _ _ (held-most w64 (even-sums-most w.number w.most p q) k.before.loop-l.l tt) (held-most w64 (odd-sums-most w.number w.most p q) k.before.loop-l.l tt) tt

loop-again : of.Tie.Need-loop-l-preserved invariant-loop-l decreases-loop-l
loop-again c =
    let k = c.before.before.before.before in
    let t = k.before.before in
    let s = t.before in
    let e = s.before.before in
    let w = e.before.requires.0 in
    let p = s.whole_halves_of-a.ensures (evens_row w.number w.most (e.evens-e.ensures w.number w.most w.is)) in
    let q = t.whole_odds-b.ensures w in
    let m = even-sums-most w.number w.most p q in
    let n = odd-sums-most w.number w.most p q in
    let l = k.before.loop-l.l in
    both-turn k.before.loop-l.invariant k.loop-l-test.true
    (to_z-of_z (add-fits w64 _ _ _ _ (held-most w64 m l tt) (held-most w64 n l tt) tt) ∙ ap₂ ◌+ℤ◌ (held-is w64 m l tt) (held-is w64 n l tt))
    (to_z-of_z (sub-fits w64 _ _ _ _ (held-most w64 m l tt) (held-most w64 n l tt) tt) ∙ ap₂ ◌-ℤ◌ (held-is w64 m l tt) (held-is w64 n l tt))

returns : of.Tie.Need-returns invariant-loop-l decreases-loop-l
returns c w =
    let t = c.before.before in
    let s = t.before in
    let e = s.before.before in
    let p = s.whole_halves_of-a.ensures (evens_row w.number w.most (e.evens-e.ensures w.number w.most w.is)) in
    let q = t.whole_odds-b.ensures w in
    both-done c.before.loop-l.invariant (omega arith) (λ l. half_sum_of side32 (λ k. w.number (2 * k + l % 2)) (l / 2)) (whole-low w.number w.most p q) (whole-high w.number w.most p q)

pub whole_halves_spec : {M : Type 1} → of.Statement.statement M
whole_halves_spec = of.Tie.close (of.Tie.spec
    invariant-loop-l decreases-loop-l (λ c κs. search rules) whole-halves-of-requires whole-odds-requires (λ c. both-start (omega arith))
    (λ c. search rules) (λ c. search rules) (λ c. search rules) (λ c. search rules) add-x (λ c. search rules) (λ c. search rules)
    (λ c. search rules) (λ c. search rules) (λ c. search rules) (λ c. search rules) sub-x (λ c. search rules) (λ c. search rules)
    (λ c. search rules) (λ c. search rules) (λ c. search rules) loop-again returns)
