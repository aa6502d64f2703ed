-- One sum over eight times four samples.
use Rattle.std.specs.Prelude.{◌+◌}
use Rattle.sequences.specs.Sum.{Summed}
use Rattle.align_residual.specs.Local.{beside_sum}
use Rattle.align_residual.proofs.sixteen.absolute_pair.Given as goal

abbrev pub invariant-loop-j : goal.invariant-loop-j
invariant-loop-j g l = Summed (λ k. beside_sum l.tile l.window (l.a + k) (l.b + k) + beside_sum l.tile l.window (l.a + k + 16) (l.b + k + g.row.STEP)) 65535 8 l.j l.sum
