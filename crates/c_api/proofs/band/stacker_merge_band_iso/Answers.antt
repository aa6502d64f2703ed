-- `c_api::band::stacker_merge_band_iso`: shape, noise and tuning are those that the descriptions stand for.
use Rattle.c_api.proofs.band.stacker_merge_band_iso.Goals as goal

pub returns : goal.returns
returns c = rw (c.shape_of.ensures, c.at_iso.ensures, c.tuned.ensures, ← c.answer.ensures) at c.merge_band.ensures
