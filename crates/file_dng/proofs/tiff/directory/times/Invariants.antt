use Rattle.file_dng.specs.Tiff.ScanLaws.{Counted}
use Rattle.file_dng.proofs.tiff.directory.times.Given as goal

-- what is counted so far, with what is left, is the whole count
abbrev pub invariant-loop-i : goal.invariant-loop-i
invariant-loop-i l = Counted l.fn.file l.start l.count l.fn.tag l.i l.seen
