use Rattle.noise.specs.Prelude.{ltb, get_or}
use Rattle.refusals.specs.SomeLaws.{Passed}
use Rattle.noise.proofs.black_refusal.Given as goal

-- no level passed is above 255
abbrev pub invariant-loop-level : goal.invariant-loop-level
invariant-loop-level l = Passed (λ i. ltb 255 (get_or l.fn.black i 0)) 4 l.level-index
