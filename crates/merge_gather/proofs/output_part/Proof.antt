-- Two words a turn, each from the four tiles over it.
use Rattle.std.specs.Prelude.{◌≡◌, ◌+◌, ◌-◌, ◌*◌, ◌/◌, ◌<◌}
use Rattle.algebra.specs.Prelude.{sym, subst, ap, ap₂, ◌∙◌, arith, rules, List, get_or, ℕ, ℤ, nat_abs, w64, to_z, of_z}
use lib.ListN.{length-set}
use Rattle.sequences.specs.Write.{Writing, write-start, write-turn, write_done}
use Rattle.merge_gather.specs.Prelude.{side16, side_of}
use Rattle.merge_gather.specs.Gather.{corrected, windowed, word_over}
use Rattle.merge_gather.specs.Work.{Divided, word_from}
use Rattle.merge_gather.proofs.Weighing.{block-column, corrected-any}
use Rattle.merge_gather.proofs.output_part as of

abbrev invariant-loop-x : of.Tie.invariant-loop-x
invariant-loop-x samples work lower upper span place by output₀ from start x₀ output x = Writing output₀ start (λ l. word_from samples work span by.count (place + l)) 16 (2 * x) output

abbrev decreases-loop-x : of.Tie.decreases-loop-x
decreases-loop-x samples work lower upper span place by output₀ from start x₀ output x = 8 - x

loop-holds : of.Tie.Need-loop-x-init invariant-loop-x decreases-loop-x
loop-holds c = let s = c in write-start (omega (arith, s.requires.0.output_room, s.requires.1))

two-more : {d : List ℕ} {at : ℕ} {f : ℕ → ℕ} {l : List ℕ} (x : ℕ) → Writing d at f 16 (2 * x + 1 + 1) l → Writing d at f 16 (2 * (x + 1)) l
two-more {d} {at} {f} {l} x w = subst (λ j. Writing d at f 16 j l) (omega arith) w

divided : (s : of.Tie.Start invariant-loop-x decreases-loop-x) → Divided s.args.by.count s.args.by.inverse
divided s = let d = s.requires.0.divided in record { some = d.some; few = d.few; inverse_is = d.inverse_is }

-- the word at place l of the part, from its sample at n
word : (s : of.Tie.Start invariant-loop-x decreases-loop-x) (l : ℕ) → l < 16 → {n : ℕ} → n ≡ s.args.span.from + (s.args.place + l) → {sum : ℤ} {r : ℕ}
    → sum ≡ windowed (side_of s.args.span.side) s.args.span.i ((s.args.place + l) / 2) (word_over s.args.work.now s.args.span (s.args.place + l))
    → r ≡ nat_abs (corrected side16 (get_or s.args.samples.now n 0) sum (s.args.by.count - 1))
    → r ≡ word_from s.args.samples.now s.args.work.now s.args.span s.args.by.count (s.args.place + l)
unfolding word_from
word s l h there is e =
    let a = s.args in
    let k = a.place + l in
    let sided = s.requires.0.weighed.sided in
    let column = block-column sided k (omega (arith, s.requires.1)) in
    e
    ∙ ap nat_abs
    (ap₂ (λ t0 z. corrected side16 t0 z (a.by.count - 1)) (ap (λ n. get_or a.samples.now n 0) there)
    (is ∙ ap (λ j. windowed (side_of a.span.side) a.span.i j (word_over a.work.now a.span k)) (sym column))
    ∙ corrected-any sided _ _ _)

windowed-requires : of.Tie.Need-windowed-sum-requires invariant-loop-x decreases-loop-x
windowed-requires c κs = let s = c in (s.requires.0.weighed, omega (arith, s.requires.1, c.loop-x-test.true))

corrected-requires : of.Tie.Need-corrected-requires invariant-loop-x decreases-loop-x
corrected-requires c κs =
    let w = c.windowed-sum in
    let e : to_z w64 (of_z w64 w.result) ≡ w.result = search rules in
    (divided c.before.before.before.before.before.before.before.before, rw e w.ensures.1)

windowed-requires-2 : of.Tie.Need-windowed-beside-requires invariant-loop-x decreases-loop-x
windowed-requires-2 c κs =
    let t = c in
    let s = t in
    (s.requires.0.weighed, omega (arith, s.requires.1, t.loop-x-test.true))

corrected-requires-2 : of.Tie.Need-corrected-requires-in-loop-x invariant-loop-x decreases-loop-x
corrected-requires-2 c κs =
    let w = c.windowed-beside in
    let e : to_z w64 (of_z w64 w.result) ≡ w.result = search rules in
    (divided c.before.before.before.before.before.before.before.before.before.before.before, rw e w.ensures.1)

-- the output's length in words and in bytes
add-output-2 : of.Tie.Need-overflow_add-output-in-loop-x invariant-loop-x decreases-loop-x
add-output-2 c =
    let t = c in
    let s = t in
    omega (arith, s.requires.0.output_room, s.requires.1, s.well_formed.1.1.1.1.1.1.1.0.0, t.loop-x-test.true)

mul-output-2 : of.Tie.Need-offset_bounds-output-start-in-loop-x invariant-loop-x decreases-loop-x
mul-output-2 c =
    let t = c in
    let s = t in
    omega (arith, s.requires.0.output_room, s.requires.1, s.well_formed.1.1.1.1.1.1.1.0.1, t.loop-x-test.true)

slice-write-output-2 : of.Tie.Need-bounds-output-start-in-loop-x invariant-loop-x decreases-loop-x
slice-write-output-2 c =
    let b = c in
    let t = b in
    let s = t in
    let l = t.loop-x in
    omega (arith, l.invariant.room, l.invariant.same, length-set l.output (s.args.span.start + s.args.place + 2 * l.x) b.corrected.result, t.loop-x-test.true)

loop-again : of.Tie.Need-loop-x-preserved invariant-loop-x decreases-loop-x
loop-again c =
    let v = c.windowed-beside in
    let f : to_z w64 (of_z w64 v.result) ≡ v.result = search rules in
    let b = c.before.before.before in
    let w = b.windowed-sum in
    let e : to_z w64 (of_z w64 w.result) ≡ w.result = search rules in
    let t = b.before.before.before.before in
    let s = t.before.before.before.before.before in
    let x = t.loop-x.x in
    let first = write-turn t.loop-x.invariant (omega arith) (word s (2 * x) (omega arith) (omega arith) (e ∙ w.ensures.0) b.corrected.ensures) in
    two-more x
    (write-turn first (omega arith) (word s (2 * x + 1) (omega arith) (omega arith) (f ∙ v.ensures.0) c.corrected-in-loop-x.ensures))

returns : of.Tie.Need-returns invariant-loop-x decreases-loop-x
returns c = write_done c.loop-x.invariant (omega arith)

pub output_part_spec : {M : Type 1} → of.Statement.statement M
output_part_spec = of.Tie.close (of.Tie.spec
    invariant-loop-x decreases-loop-x (λ c. search rules) (λ c. search rules) loop-holds (λ c. search rules) (λ c. search rules) windowed-requires
    (λ c. search rules) (λ c. search rules) (λ c. search rules) corrected-requires
    (λ c. search rules) (λ c. search rules) (λ c. search rules) (λ c. search rules) (λ c. search rules) (λ c. search rules) windowed-requires-2
    (λ c. search rules) (λ c. search rules) (λ c. search rules) corrected-requires-2
    add-output-2
    mul-output-2
    slice-write-output-2
    (λ c. search rules) (λ c. search rules) loop-again (λ c. search rules) returns)
