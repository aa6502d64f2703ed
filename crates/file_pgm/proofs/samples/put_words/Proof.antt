-- After k turns the first k words are stored.
use Rattle.std.specs.Prelude.{◌-◌}
use Rattle.algebra.specs.Prelude.{refl, arith, rules, get_or}
use Rattle.sequences.specs.Write.{Writing, write-start, write-turn, write_done}
use Rattle.file_pgm.specs.Samples.Blocks.{exchanged}
use Rattle.file_pgm.proofs.samples.put_words as of

abbrev invariant-loop-k : of.Tie.invariant-loop-k
invariant-loop-k block frame₀ at k₀ frame k = Writing frame₀ at (λ k. exchanged (get_or block k 0)) 64 k frame

abbrev decreases-loop-k : of.Tie.decreases-loop-k
decreases-loop-k block frame₀ at k₀ frame k = 64 - k

loop-again : of.Tie.Need-loop-k-preserved invariant-loop-k decreases-loop-k
unfolding exchanged
loop-again c = write-turn c.loop-k.invariant (omega arith) refl

returns : of.Tie.Need-returns invariant-loop-k decreases-loop-k
returns c = write_done c.loop-k.invariant (omega arith)

pub put_words_spec : {M : Type 1} → of.Statement.statement M
put_words_spec = of.Tie.close (of.Tie.spec
    invariant-loop-k decreases-loop-k (λ c. write-start c.requires) (λ c. search rules) (λ c. search rules)
    (λ c. search rules) (λ c. search rules) (λ c. search rules) (λ c. search rules)
    (λ c. search rules) (λ c. search rules) (λ c. search rules) loop-again (λ c. search rules)
    returns)
