-- `c_api::one_frame::stacker_align_frame`: the shape is the one that the description stands for.
use Rattle.algebra.specs.Prelude.{rules}
use Rattle.c_api.proofs.one_frame.stacker_align_frame as of

returns : of.Tie.Need-returns
returns c =
    let a = c in
    rw a.shape_of.ensures at a.align_frame.ensures

pub stacker_align_frame_spec : {M : Type 1} → of.Statement.statement M
stacker_align_frame_spec = of.Tie.close (of.Tie.spec
    (λ c κs. search rules) (λ c κs. search rules) (λ c. search rules) (λ c. search rules) returns)
