-- `c_api::choose::stacker_run_sharpest`: shape, noise and tuning are those that the descriptions stand for.
use Rattle.algebra.specs.Prelude.{rules}
use Rattle.c_api.proofs.choose.stacker_run_sharpest as of

returns : of.Tie.Need-returns
returns c =
    let m = c in
    let t = m in
    rw (t.shape_of.ensures, t.measured.ensures, t.tuned.ensures, t.of_frames-burst.ensures) at m.run_sharpest.ensures

pub stacker_run_sharpest_spec : {M : Type 1} → of.Statement.statement M
stacker_run_sharpest_spec = of.Tie.close (of.Tie.spec
    (λ c κs. search rules) (λ c κs. search rules) (λ c κs. search rules) (λ c κs. search rules) (λ c κs. search rules) (λ c. search rules) (λ c. search rules) (λ c. search rules) returns)
