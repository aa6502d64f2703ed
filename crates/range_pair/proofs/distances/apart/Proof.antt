-- Both numbers fit, and so does what they make.
use Rattle.std.specs.Prelude.{◌^◌}
use Rattle.range_pair.specs.Prelude.{false, lit≤, Float, WholeDouble, fold_most}
use native.Mathlib.Nat.{le_trans}
use Rattle.tile_spectrum.specs.Lines.DoubleCasts.{whole-fits}
use Rattle.tile_lines.proofs.back.WholeHalves.{difference-fits, difference-is}
use Rattle.range_pair.proofs.distances.apart as of

wide : {x : Float} → WholeDouble (fold_most false) x → WholeDouble (2 ^ 53) x
wide w = record { number = w.number; most = le_trans w.most (lit≤ tt); is = w.is }

pub apart_spec : {M : Type 1} → of.Statement.statement M
apart_spec = of.Tie.close (of.Tie.spec
    (λ c. whole-fits (wide c.requires.0)) (λ c. whole-fits (wide c.requires.1))
    (λ c. difference-fits (wide c.requires.0) (wide c.requires.1))
    (λ c. difference-is (wide c.requires.0) (wide c.requires.1)))
