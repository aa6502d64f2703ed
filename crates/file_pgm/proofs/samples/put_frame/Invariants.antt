use Rattle.file_pgm.proofs.samples.Framing.{Framing}
use Rattle.file_pgm.proofs.samples.put_frame.Given as goal

-- the bytes of the samples passed are put
abbrev pub invariant-loop-i : goal.invariant-loop-i
invariant-loop-i l = Framing l.fn.bytes l.fn.at l.fn.frame l.i l.bytes
