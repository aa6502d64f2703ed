use Rattle.std.specs.Prelude.{◌*◌}
use Rattle.sequences.specs.TabLaws.{Filled}
use Rattle.tile_spectrum.specs.Lines.WholeFolds.{placed}
use Rattle.tile_lines32_whole.proofs.halfcomplex.Given as goal

-- the places are stored by twos
abbrev pub invariant-loop-k : goal.invariant-loop-k
invariant-loop-k l = Filled (placed l.e l.o) 32 (2 * l.k) l.initial.r l.r
