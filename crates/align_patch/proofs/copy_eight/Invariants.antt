-- Each store is one of a part written from its front.
use Rattle.std.specs.Prelude.{◌+◌}
use Rattle.sequences.specs.Write.{Writing}
use Rattle.align_pyramid.specs.Words.{word_at}
use Rattle.align_patch.proofs.copy_eight.Given as goal

abbrev pub invariant-loop-j : goal.invariant-loop-j
invariant-loop-j l = Writing l.fn.out l.fn.to (λ k. word_at l.fn.words (l.fn.from + k)) 8 l.j l.out
