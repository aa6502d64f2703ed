use Rattle.file_burst.specs.Prelude.{length, get_or, drop, next_values}
use Rattle.sequences.specs.TabLaws.{Filled}
use Rattle.file_burst.proofs.Fills.{Taking}
use Rattle.file_burst.proofs.file.fill.Given as goal

-- the samples passed are the next values, and the bytes from the position on hold the others
abbrev pub invariant-loop-sample : goal.invariant-loop-sample
invariant-loop-sample l =
    Filled (λ k. get_or (next_values (length l.fn.samples) (drop l.fn.at l.fn.file)) k 0) (length l.fn.samples) l.sample-index l.fn.samples l.samples
    × Taking (length l.fn.samples) (drop l.fn.at l.fn.file) l.sample-index (drop l.i l.fn.file)
