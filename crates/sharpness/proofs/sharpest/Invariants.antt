-- The loop keeps the first greatest of the frames seen so far.
use Rattle.sharpness.specs.Prelude.{ltb, min}
use Rattle.sequences.specs.FirstLaws.{First}
use Rattle.sharpness.specs.Sharpness.{sharpness}
use Rattle.sharpness.proofs.sharpest.Given as goal

abbrev pub invariant-loop-frame : goal.invariant-loop-frame
invariant-loop-frame l = First (λ a b. ltb b a) (sharpness l.shape l.samples) (min l.shape.count 3) l.frame l.best l.most
