use Rattle.algebra.specs.Prelude.{length, get_or}
use Rattle.sequences.specs.TabLaws.{Filled}
use Rattle.c_words.proofs.store.Given as goal

-- the bytes passed are the text's, or 0
abbrev pub invariant-loop-i : goal.invariant-loop-i
invariant-loop-i l = Filled (λ k. get_or l.fn.text k 0) (length l.fn.buffer) l.i l.fn.buffer l.buffer
