-- `c_api::residuals::stacker_residuals`: the shape is the one that the description stands for.
use Rattle.c_api.proofs.residuals.stacker_residuals.Goals as goal

pub returns : goal.returns
returns c = rw (c.shape_of.ensures, ← c.answer.ensures) at c.residuals.ensures
