use Rattle.std.proofs.Common.{◌≡◌, ◌-◌, ◌%◌}
use Rattle.algebra.specs.Prelude.{length, get_or, drop}
use Rattle.sequences.specs.Write.{Writing}
use Rattle.file_pgm.specs.Samples.Samples.{samples_of}
use Rattle.file_pgm.proofs.samples.fill.Given as goal

-- the samples passed are stored, and what is left is whole blocks of 64
abbrev pub invariant-loop-at : goal.invariant-loop-at
invariant-loop-at l =
    Writing l.fn.frame 0 (λ k. get_or (samples_of (drop l.fn.start l.fn.bytes)) k 0) (length l.fn.frame) l.at l.frame × ((length l.fn.frame - l.at) % 64 ≡ 0)
