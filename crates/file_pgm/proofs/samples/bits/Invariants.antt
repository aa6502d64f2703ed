use Rattle.algebra.specs.Prelude.{length, get_or}
use Rattle.refusals.specs.SeenLaws.{Seen}
use Rattle.file_pgm.proofs.samples.bits.Given as goal

-- the bits of the samples passed are gathered
abbrev pub invariant-loop-sample : goal.invariant-loop-sample
invariant-loop-sample l = Seen (λ k. get_or l.fn.frame k 0) 4095 (length l.fn.frame) l.sample-index l.seen
