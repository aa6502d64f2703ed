-- `tile_lines::back::whole_sum`: both numbers fit, and so does what they make.
use Rattle.tile_spectrum.specs.Lines.DoubleCasts.{whole-fits}
use Rattle.tile_lines.proofs.back.WholeHalves.{sum_fits, sum_is}
use Rattle.tile_lines.proofs.back.whole_sum as of

pub whole_sum_spec : {M : Type 1} → of.Statement.statement M
whole_sum_spec = of.Tie.close (of.Tie.spec
    (λ c. whole-fits c.before.requires.0) (λ c. whole-fits c.before.before.requires.1)
    (λ c. sum_fits c.before.before.requires.0 c.before.before.requires.1) (λ c. sum_is c.before.before.requires.0 c.before.before.requires.1))
