-- Each turn writes eight samples more of the part.
use native.Mathlib.Nat.{add_assoc}
use Rattle.sequences.specs.Write.{Writing, write-start, write-part, write_done}
use Rattle.align_pyramid.specs.Words.{word_at}
use Rattle.align_pyramid.specs.WordsLaws.{row-part}
use Rattle.std.specs.Prelude.{◌≡◌, ◌+◌, ◌-◌, ◌*◌}
use Rattle.algebra.specs.Prelude.{ap, arith, rules}
use Rattle.align_patch.proofs.copy_inside as of

abbrev invariant-loop-k : of.Tie.invariant-loop-k
invariant-loop-k words from n out₀ to k₀ k-end out k = Writing out₀ to (λ j. word_at words (from + j)) n (8 * k) out

abbrev decreases-loop-k : of.Tie.decreases-loop-k
decreases-loop-k words from n out₀ to k₀ k-end out k = k-end - k

copy-eight-requires : of.Tie.Need-copy_eight-requires invariant-loop-k decreases-loop-k
copy-eight-requires c κs = (row-part c.before.before.before.before.requires.row _ _ (omega arith), omega arith)

loop-again : of.Tie.Need-loop-k-preserved invariant-loop-k decreases-loop-k
loop-again c = let a = c.before.before.before.before.before.before.before.args in
    let l = c.before.before.before.before.before.loop-k in
    let e : 8 * (l.k + 1) ≡ 8 * l.k + 8 = omega arith in
    rw e (write-part l.invariant (omega arith) (λ j h. ap (word_at a.words.now) (add_assoc a.from (8 * l.k) j)) c.before.before.copy_eight.ensures)

returns : of.Tie.Need-returns invariant-loop-k decreases-loop-k
returns c = write_done c.before.loop-k.invariant (omega arith)

pub copy_inside_spec : {M : Type 1} → of.Statement.statement M
copy_inside_spec = of.Tie.close (of.Tie.spec
    invariant-loop-k decreases-loop-k (λ c. write-start (search rules)) (λ c. search rules) (λ c. search rules)
    (λ c. search rules) (λ c. search rules) copy-eight-requires (λ c. search rules)
    (λ c. search rules) loop-again (λ c. search rules) returns)
