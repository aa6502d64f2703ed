-- `c_api::band::stacker_band_work`: the shape is the one that the descriptions stand for.
use Rattle.algebra.specs.Prelude.{ap, ◌∙◌, rules}
use Rattle.admit_length.specs.Bands.{band_work_question}
use Rattle.c_api.proofs.band.stacker_band_work as of

returns : of.Tie.Need-returns
returns c = c.band_work_question.ensures ∙ ap band_work_question c.shape_of.ensures

pub stacker_band_work_spec : {M : Type 1} → of.Statement.statement M
stacker_band_work_spec = of.Tie.close (of.Tie.spec (λ c κs. search rules) (λ c κs. search rules) returns)
