use Rattle.std.proofs.Common.{◌≡◌, ◌-◌, ◌%◌}
use Rattle.algebra.specs.Prelude.{ltb, get_or, drop}
use Rattle.refusals.specs.SomeLaws.{Passed}
use Rattle.file_pgm.specs.Samples.Samples.{samples_of}
use Rattle.file_pgm.proofs.samples.raster_refusal.Given as goal

-- no sample passed is above 4095, and what is left is whole blocks of 64
abbrev pub invariant-loop-i : goal.invariant-loop-i
invariant-loop-i l =
    Passed (λ k. ltb 4095 (get_or (samples_of (drop l.fn.start l.fn.bytes)) k 0)) l.fn.count l.i × ((l.fn.count - l.i) % 64 ≡ 0)
