-- Where both noise numbers are 0, so is every correction.
use Rattle.std.proofs.Common.{arith}
use Rattle.merge_tiles.specs.SumLaws.{zero-summed}
use Rattle.merge_tiles.specs.NoiseLaws.{no-noise-of}
use Rattle.merge_tiles.proofs.correcting.summed.Goals as goal

pub overflow_add-first : goal.overflow_add-first
overflow_add-first g c = let top = g.met.C.Corrector.laws.top_most in omega (arith, c.requires.asked.tile.first_most, c.requires.asked.tile.second_most)

pub returns-then-first-second-eq0-clause-summed : goal.returns-then-first-second-eq0-clause-summed
returns-then-first-second-eq0-clause-summed g c = zero-summed g.row.SIDE g.C.Corrector.small (no-noise-of c.requires.asked.tile c.if-first-second-eq0.true) c.requires.asked.cleared
