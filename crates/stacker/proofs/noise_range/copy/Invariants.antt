use Rattle.stacker.specs.Prelude.{length, get_or}
use Rattle.sequences.specs.TabLaws.{Filled}
use Rattle.stacker.proofs.noise_range.copy.Given as goal

-- the words passed are the frame's
abbrev pub invariant-loop-i : goal.invariant-loop-i
invariant-loop-i l = Filled (λ k. get_or l.fn.frame k 0) (length l.fn.over) l.i l.fn.over l.over
