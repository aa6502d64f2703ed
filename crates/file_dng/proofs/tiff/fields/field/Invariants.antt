use Rattle.file_dng.specs.Tiff.ScanLaws.{Sought}
use Rattle.file_dng.proofs.tiff.fields.field.Given as goal

-- no entry passed is right
abbrev pub invariant-loop-i : goal.invariant-loop-i
invariant-loop-i l = Sought l.fn.file l.fn.wanted l.start l.count l.i
