-- `tile_lines::back::whole_difference`: both numbers fit, and so does what they make.
use Rattle.tile_spectrum.specs.Lines.DoubleCasts.{whole-fits}
use Rattle.tile_lines.proofs.back.WholeHalves.{difference-fits, difference-is}
use Rattle.tile_lines.proofs.back.whole_difference as of

pub whole_difference_spec : {M : Type 1} → of.Statement.statement M
whole_difference_spec = of.Tie.close (of.Tie.spec
    (λ c. whole-fits c.before.requires.0) (λ c. whole-fits c.before.before.requires.1)
    (λ c. difference-fits c.before.before.requires.0 c.before.before.requires.1) (λ c. difference-is c.before.before.requires.0 c.before.before.requires.1))
