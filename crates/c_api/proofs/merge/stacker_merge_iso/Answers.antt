-- `c_api::merge::stacker_merge_iso`: shape, noise and tuning are those that the descriptions stand for.
use Rattle.c_api.proofs.merge.stacker_merge_iso.Goals as goal

pub returns : goal.returns
returns c = rw (c.shape_of.ensures, c.at_iso.ensures, c.tuned.ensures, ← c.answer.ensures) at c.merge.ensures
