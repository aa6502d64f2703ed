-- `c_api::noise_range::stacker_range_iso`: shape, noises and tuning are those that the descriptions stand for.
use Rattle.c_api.proofs.noise_range.stacker_range_iso.Goals as goal

pub returns : goal.returns
returns c = rw (c.shape_of.ensures, c.at_iso.ensures, c.at_iso-2.ensures, c.tuned.ensures, ← c.answer.ensures) at c.range.ensures
