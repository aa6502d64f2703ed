-- `c_api::dng_file::stacker_read_dng`: the shape is the one that the description stands for.
use Rattle.algebra.specs.Prelude.{rules}
use Rattle.c_api.proofs.dng_file.stacker_read_dng as of

returns : of.Tie.Need-returns
returns c =
    let r = c in
    let s = r in
    rw (s.shape_of-shape.ensures, s.of_frames.ensures) at r.read_dng.ensures

pub stacker_read_dng_spec : {M : Type 1} → of.Statement.statement M
stacker_read_dng_spec = of.Tie.close (of.Tie.spec
    (λ c κs. search rules) (λ c κs. search rules) (λ c κs. search rules) (λ c. search rules) returns)
