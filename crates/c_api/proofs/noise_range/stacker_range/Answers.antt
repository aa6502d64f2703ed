-- `c_api::noise_range::stacker_range`: shape, noises and tuning are those that the descriptions stand for.
use Rattle.c_api.proofs.noise_range.stacker_range.Goals as goal

pub returns : goal.returns
returns c = rw (c.shape_of.ensures, c.measured.ensures, c.measured-2.ensures, c.tuned.ensures, ← c.answer.ensures) at c.range.ensures
