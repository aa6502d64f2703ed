use Rattle.std.proofs.Common.{length}
use Rattle.refusals.specs.SomeLaws.{Passed}
use Rattle.admit_value.specs.BoundLaws.{beyond}
use Rattle.admit_value.proofs.vector_refusal.Given as goal

-- no part passed lies outside −172..172
abbrev pub invariant-loop-part : goal.invariant-loop-part
invariant-loop-part l = Passed (beyond l.fn.vectors) (length l.fn.vectors) l.part-index
