-- `c_api::merge::stacker_merge`: shape, noise and tuning are those that the descriptions stand for.
use Rattle.c_api.proofs.merge.stacker_merge.Goals as goal

pub returns : goal.returns
returns c = rw (c.shape_of.ensures, c.measured.ensures, c.tuned.ensures, ← c.answer.ensures) at c.merge.ensures
