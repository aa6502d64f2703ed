-- Width times height is small.
use Rattle.algebra.specs.Prelude.{refl, arith}
use Rattle.geometry.specs.ShapeLaws.{area-most}
use Rattle.admit_length.specs.OneFrame.{frame_work_length}
use Rattle.admit_length.proofs.one_frame.frame_work_length as of

returns : of.Tie.Need-returns
unfolding frame_work_length
returns c = refl

pub frame_work_length_spec : {M : Type 1} → of.Statement.statement M
frame_work_length_spec = of.Tie.close (of.Tie.spec (λ c. omega (arith, area-most c.before.requires)) returns)
